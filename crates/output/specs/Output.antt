-- What a write into a lent buffer answers, and what the buffer holds then (01, Refusal numbers: "Writer: 14 before 13").
use Rattle.std.specs.Prelude.{ℕ, Result, Ok, Err, List, ◌++◌, Bool, cond, ◌&&◌, leb, length, drop}
use Rattle.refusals.specs.Refusals.{unfit_output, not_valid}
use Rattle.refusals.specs.Numbered.{number_of}
use Rattle.refusals.specs.declared.Refusal.{Refusal}
use Rattle.refusals.specs.declared.Refusal.TheVariants.{UnfitOutput, NotValid}
use Rattle.output.specs.declared.Written.{Written}

-- an answer, by its parts
abbrev pub written : ℕ → ℕ → Written
written result bytes = record { result = result; bytes = bytes }

-- the output is not shorter than needed for the bytes
abbrev pub fits : List ℕ → List ℕ → Bool
fits bytes out = leb (length bytes) (length out)

-- what a write of the bytes of something answers, if that is valid or not
abbrev pub written_as : List ℕ → Bool → List ℕ → Written
written_as bytes good out = cond good (cond (fits bytes out) (written 0 (length bytes)) (written unfit_output 0)) (written not_valid 0)

-- a write changes exactly the bytes; a refused write changes none
abbrev pub buffer_as : List ℕ → Bool → List ℕ → List ℕ
buffer_as bytes good out = cond (good && fits bytes out) (bytes ++ drop (length bytes) out) out

-- the same on the way to the answer: the bytes written, or which refusal
abbrev pub outcome_as : List ℕ → Bool → List ℕ → Result ℕ Refusal
outcome_as bytes good out = cond good (cond (fits bytes out) (Ok (length bytes)) (Err UnfitOutput)) (Err NotValid)

-- an outcome, as it is answered: on a refusal no byte is written
abbrev pub answered : Result ℕ Refusal → Written
answered (Ok n) = written 0 n
answered (Err r) = written (number_of r) 0

-- Names are a parameter: the code's functions carry a number for each, and a format has its own type of names.
use Rattle.tree.specs.Reading.{Rule, Fault, cut_off, overlong, breaks, Out, ok, no}
use Rattle.tree.specs.Syntax.{Syntax, done, reads, checks, here}

abbrev pub renamed_rule : {N M : Type 0} → (N → M) → Rule N → Rule M
renamed_rule f r = record { number = r.number; offset = r.offset; element = f r.element; value = r.value; allowed = r.allowed }

abbrev pub renamed_fault : {N M : Type 0} → (N → M) → Fault N → Fault M
renamed_fault f (cut_off at n) = cut_off at (f n)
renamed_fault f (overlong at n) = overlong at (f n)
renamed_fault f (breaks r) = breaks (renamed_rule f r)

-- an answer under other names
abbrev pub renamed : {N M A : Type 0} → (N → M) → Out N A → Out M A
renamed f (ok a n) = ok a n
renamed f (no r) = no (renamed_fault f r)

-- a table under other names
unfoldable pub retitled : {N M A : Type 0} → (N → M) → Syntax N A → Syntax M A
retitled f (done a) = done a
retitled f (reads n d g) = reads (f n) d (λ z. retitled f (g z))
retitled f (checks r p) = checks (renamed_rule f r) (retitled f p)
retitled f (here g) = here (λ at. retitled f (g at))

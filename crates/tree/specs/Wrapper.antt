-- A wrapper: bytes that stand before the data.
use Rattle.std.specs.Prelude.{ℕ, List, [], ◌∷◌, Bool, drop, pos}
use Rattle.refusals.specs.Refusals.{wrapper_differs}
use Rattle.tree.specs.Reading.{Out, ok, no}
use Rattle.tree.specs.Coding.{unsigned, fixed}
use Rattle.tree.specs.Syntax.{Syntax, done, ◌>>=◌, ◌>>◌, ranged, read, read_whole}

-- each byte is the one expected, compared from left to right
unfoldable pub wrapper_table : {N : Type 0} → N → List ℕ → Syntax N Unit
wrapper_table name [] = done tt
wrapper_table name (b ∷ bs) = ranged name (fixed (unsigned 8)) wrapper_differs (pos b) (pos b) >> wrapper_table name bs

-- the data's reader is handed the input from behind the wrapper on, and its positions begin again
abbrev pub behind_wrapper : {N A : Type 0} → N → Syntax N A → Out N Unit → List Bool → Out N A
behind_wrapper end p (ok t n) s = read_whole end p (drop n s)
behind_wrapper end p (no f) s = no f

-- reading data in its wrapper
abbrev pub read_behind : {N A : Type 0} → (wrapper : N) → List ℕ → (end : N) → Syntax N A → List Bool → Out N A
read_behind wrapper bytes end p s = behind_wrapper end p (read (wrapper_table wrapper bytes) 0 s) s

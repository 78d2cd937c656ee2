-- The listing of an accepted reading, and of a refusal.
use Prim.Native.Nat.{◌≤◌}
use mathlib.Core.Path.{◌≡◌}
use mathlib.Core.List.{append-nil}
use mathlib.Core.Bool.{true}
use borrow.Author.Tests.{eq-eqb, ne_eqb}
use lib.IntN.{pos}
use Rattle.text.specs.Text.{line, line_text, text}
use Rattle.record.specs.Blocks.{most_blocks}
use Rattle.valid.proofs.Clauses.{valid_means}
use Rattle.reader.specs.declared.Reading.{Reading}
use Rattle.listing.specs.Listing.{accepted_lines, listing, listable}

pub accepted_text : (q : Reading) → q.result ≡ 0 → listing q ≡ text (accepted_lines q.«record» q.bits)
unfolding listing
accepted_text q e = rw (eq-eqb q.result 0 e)

pub refused_text : (q : Reading) → (q.result ≡ 0 → ⊥) → listing q ≡ line_text (line "result" (pos q.result))
unfolding listing text
refused_text q n = rw (ne_eqb q.result 0 n) (append-nil (line_text (line "result" (pos q.result))))

pub accepted_few : (q : Reading) → q.result ≡ 0 → listable q ≡ true → q.«record».count ≤ most_blocks
accepted_few q e h = (valid_means q.«record» (rw (eq-eqb q.result 0 e) at h)).few

-- Laws of the lines of blocks.
use Prim.Native.Nat.{ℕ, suc, ◌+◌, ◌<◌}
use mathlib.Core.Path.{◌≡◌, refl, sym, ap, ◌∙◌}
use mathlib.Core.List.{List, [], ◌∷◌, ◌++◌, append_assoc, append-nil}
use native.Mathlib.Omega.{arith}
use lib.ListN.{length, take, drop, length-take, length-map, get_or-map, take-append-drop}
use lib.Seq.{take-take, drop-cons, get_or-take}
use Rattle.text.specs.Text.{text}
use Rattle.text.specs.declared.Page.{Page}
use Rattle.text.specs.Page.{HasRoom, TypedOn}
use Rattle.text.proofs.Typing.{room_first, room_after}
use Rattle.text.proofs.Lines.{text-append}
use Rattle.record.specs.declared.Block.{Block}
use Rattle.record.specs.declared.Block.TheVariants.{Nothing}
use Rattle.record.specs.declared.Record.{Record}
use Rattle.record.specs.Blocks.{block_in, empty_place, all_blocks}
use Rattle.record.proofs.Laws.{block_at, take_more}
use Rattle.listing.specs.Listing.{block_lines, blocks_lines}

lines-append : (bs cs : List Block) → blocks_lines (bs ++ cs) ≡ blocks_lines bs ++ blocks_lines cs
unfolding blocks_lines
lines-append [] cs = refl
lines-append (b ∷ bs) cs = rw (lines-append bs cs) (sym (append_assoc (block_lines b) (blocks_lines bs) (blocks_lines cs)))

module _ (r : Record) (j : ℕ) where
  -- the text of the first j blocks
  abbrev pub before : List ℕ
  before = text (blocks_lines (take j (all_blocks r)))

  -- and of the block behind them
  abbrev pub next : List ℕ
  next = text (block_lines (block_at r j))

  pub text_more : j < length r.places → text (blocks_lines (take (j + 1) (all_blocks r))) ≡ before ++ next
  unfolding blocks_lines
  text_more h =
      rw (take_more r j h, lines-append (take j (all_blocks r)) (block_at r j ∷ []), append-nil (block_lines (block_at r j)), text-append (blocks_lines (take j (all_blocks r))) (block_lines (block_at r j)))

  -- where there is room for n blocks, there is room for the next one
  pub room_next : (n : ℕ) {p q : Page} → j < n → j < length r.places → TypedOn p before q → HasRoom p (text (blocks_lines (take n (all_blocks r)))) → HasRoom q next
  unfolding blocks_lines
  room_next n {q = q} h k t room =
      let all = all_blocks r in
      let rest = drop (suc j) (take n all) in
      let inside : j < length (take n all) = omega (arith, h, k, length-take n all, length-map r.places block_in) in
      let e : take n all ≡ take j all ++ (block_at r j ∷ rest) =
      sym (take-append-drop j (take n all))
      ∙ rw (take-take j n all (omega arith), drop-cons (take n all) j Nothing inside, get_or-take n all j Nothing h, get_or-map block_in r.places j empty_place) refl in
      let f : text (blocks_lines (take n all)) ≡ before ++ (next ++ text (blocks_lines rest)) =
      ap (λ (bs : List Block). text (blocks_lines bs)) e
      ∙ rw (lines-append (take j all) (block_at r j ∷ rest), text-append (blocks_lines (take j all)) (block_lines (block_at r j) ++ blocks_lines rest), text-append (block_lines (block_at r j)) (blocks_lines rest)) in
      room_first q.at (length q.out.now) next (text (blocks_lines rest)) (room_after t (next ++ text (blocks_lines rest)) (rw f at room))

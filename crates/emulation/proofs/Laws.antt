-- Removing emulation bytes undoes inserting them; what is inserted leaves nothing that may not stand; and of bytes in which nothing
-- stands that may not, and whose last one is kept, removing and inserting gives them back.
use Prim.Native.Nat.{ℕ, zero, suc, ◌+◌, ◌*◌, ◌<◌, ◌≤◌}
use mathlib.Core.Path.{◌≡◌, refl, ap, sym, ◌∙◌}
use mathlib.Core.List.{List, [], ◌∷◌, ◌++◌}
use mathlib.Core.Bool.{Bool, true, false, cond, ◌&&◌, ◌||◌, or-true, true≢false, false≢true}
use mathlib.Core.Logic.{◌⊎◌, inl, inr}
use native.Mathlib.Omega.{arith}
use borrow.Author.Tests.{ne_eqb, eqb-true, eqb-false, leb-true, leb-false, le-leb, lt-leb, ltb-true, ltb-false, lt-ltb, le-ltb}
use lib.Dec.{eqb, leb, ltb}
use lib.ListN.{length, replicate}
use Rattle.tree.specs.Bits.{Bytes}
use Rattle.tree.proofs.Truth.{and_parts}
use Rattle.emulation.specs.Emulation.{zeros_behind, behind_two_zeros, is_emulation, left_out, removed_behind, removed, needs_emulation, put_before, escaped_behind, escaped, begins_above, begins_forbidden, forbidden, StartCodeInside}

-- ---- removing undoes inserting

-- 03 is among 00 to 03
not_emulation : (z b : ℕ) → needs_emulation z b ≡ false → is_emulation z b ≡ false
not_emulation z b q = go (behind_two_zeros z) q
  where
    go : (t : Bool) → (t && leb b 3) ≡ false → (t && eqb b 3) ≡ false
    go true e = ne_eqb b 3 (λ f. absurd (omega (arith, leb-false b 3 e, f)))
    go false e = refl

undone_behind : (z : ℕ) (s : List ℕ) → removed_behind z (escaped_behind z s) ≡ s
unfolding removed_behind escaped_behind
undone_behind z [] = refl
undone_behind z (b ∷ s) = go (needs_emulation z b) refl (undone_behind (zeros_behind 0 b) s) (undone_behind (zeros_behind z b) s)
  where
    go : (e : Bool) → needs_emulation z b ≡ e → removed_behind (zeros_behind 0 b) (escaped_behind (zeros_behind 0 b) s) ≡ s → removed_behind (zeros_behind z b) (escaped_behind (zeros_behind z b) s) ≡ s
        → removed_behind z (put_before e (b ∷ escaped_behind (zeros_behind (cond e 0 z) b) s)) ≡ b ∷ s
    go true q h k = rw (and_parts (behind_two_zeros z) (leb b 3) q).0 (ap (λ (l : List ℕ). b ∷ l) h)
    go false q h k = rw (not_emulation z b q) (ap (λ (l : List ℕ). b ∷ l) k)

-- removing emulation bytes undoes inserting them, for every list of bytes
pub removing_undoes_inserting : (s : List ℕ) → removed (escaped s) ≡ s
removing_undoes_inserting s = undone_behind 0 s

-- ---- what may not stand

-- zero bytes in a row
abbrev zeros : ℕ → List ℕ
zeros n = replicate n 0

-- what makes two zero bytes before it one of those that may not stand
abbrev ends_badly : ℕ → List ℕ → Bool
ends_badly c s = ltb c 3 || (eqb c 3 && begins_above 3 s)

module _ (c : ℕ) (n : c ≡ 0 → ⊥) where
  first_stands : (s : List ℕ) → begins_forbidden (c ∷ s) ≡ false
  first_stands [] = refl
  first_stands (a ∷ []) = refl
  first_stands (a ∷ b ∷ s) = rw (ne_eqb c 0 n) refl

  second_stands : (s : List ℕ) → begins_forbidden (0 ∷ c ∷ s) ≡ false
  second_stands [] = refl
  second_stands (a ∷ s) = rw (ne_eqb c 0 n) refl

  -- behind up to two zero bytes and another byte
  behind_none : (s : List ℕ) → forbidden (c ∷ s) ≡ forbidden s
  unfolding forbidden
  behind_none s = rw (first_stands s) refl

  behind_one : (s : List ℕ) → forbidden (0 ∷ c ∷ s) ≡ forbidden s
  unfolding forbidden
  behind_one s = rw (second_stands s, first_stands s) refl

  behind_two : (s : List ℕ) → forbidden (0 ∷ 0 ∷ c ∷ s) ≡ (ends_badly c s || forbidden s)
  unfolding forbidden
  behind_two s = rw (second_stands s, first_stands s) refl

-- no two bytes of which the second is not 00 begin or end with what may not stand: so it is in a unit exactly if it is behind the header
pub behind_a_header : (a b : ℕ) (s : List ℕ) → (b ≡ 0 → ⊥) → forbidden (a ∷ b ∷ s) ≡ forbidden s
behind_a_header a b s n = go (eqb a 0) refl
  where
    go : (t : Bool) → eqb a 0 ≡ t → forbidden (a ∷ b ∷ s) ≡ forbidden s
    go true q = rw (eqb-true a 0 q) (behind_one b n s)
    go false q = behind_none a (eqb-false a 0 q) (b ∷ s) ∙ behind_none b n s

three : ◌≡◌ {A = ℕ} 3 0 → ⊥
three e = omega arith

-- ---- what is inserted leaves nothing that may not stand

-- what comes behind an inserted byte is not above 03
calm : (b : ℕ) (s : List ℕ) → b ≤ 3 → ends_badly 3 (b ∷ s) ≡ false
calm b s h = rw (le-ltb 3 b h) refl

free_behind : (z : ℕ) → z ≤ 2 → (s : List ℕ) → forbidden (zeros z ++ escaped_behind z s) ≡ false
unfolding forbidden escaped_behind
free_behind zero l [] = refl
free_behind (suc zero) l [] = refl
free_behind (suc (suc zero)) l [] = refl
free_behind (suc (suc (suc z))) l [] = absurd (omega arith)
free_behind zero l (b ∷ s) = go (eqb b 0) refl (free_behind 1 (omega arith) s) (free_behind 0 (omega arith) s)
  where
    go : (t : Bool) → eqb b 0 ≡ t → forbidden (zeros 1 ++ escaped_behind 1 s) ≡ false → forbidden (escaped_behind 0 s) ≡ false
        → forbidden (b ∷ escaped_behind (cond t 1 0) s) ≡ false
    go true q one none = rw (eqb-true b 0 q) one
    go false q one none = behind_none b (eqb-false b 0 q) (escaped_behind 0 s) ∙ none
free_behind (suc zero) l (b ∷ s) = go (eqb b 0) refl (free_behind 2 (omega arith) s) (free_behind 0 (omega arith) s)
  where
    go : (t : Bool) → eqb b 0 ≡ t → forbidden (zeros 2 ++ escaped_behind 2 s) ≡ false → forbidden (escaped_behind 0 s) ≡ false
        → forbidden (0 ∷ b ∷ escaped_behind (cond t 2 0) s) ≡ false
    go true q two none = rw (eqb-true b 0 q) two
    go false q two none = behind_one b (eqb-false b 0 q) (escaped_behind 0 s) ∙ none
free_behind (suc (suc zero)) l (b ∷ s) = go (leb b 3) refl (eqb b 0) refl (free_behind 1 (omega arith) s) (free_behind 0 (omega arith) s)
  where
    go : (e : Bool) → leb b 3 ≡ e → (t : Bool) → eqb b 0 ≡ t → forbidden (zeros 1 ++ escaped_behind 1 s) ≡ false → forbidden (escaped_behind 0 s) ≡ false
        → forbidden (0 ∷ 0 ∷ put_before e (b ∷ escaped_behind (cond t (suc (cond e 0 2)) 0) s)) ≡ false
    go true p true q one none = behind_two 3 three (b ∷ escaped_behind 1 s) ∙ rw (calm b (escaped_behind 1 s) (leb-true b 3 p), eqb-true b 0 q) one
    go true p false q one none = behind_two 3 three (b ∷ escaped_behind 0 s) ∙ rw (calm b (escaped_behind 0 s) (leb-true b 3 p)) (behind_none b (eqb-false b 0 q) (escaped_behind 0 s) ∙ none)
    go false p true q one none = absurd (omega (arith, leb-false b 3 p, eqb-true b 0 q))
    go false p false q one none =
        let big = leb-false b 3 p in
        behind_two b (eqb-false b 0 q) (escaped_behind 0 s) ∙ rw (le-ltb b 3 (omega arith), ne_eqb b 3 (λ e. absurd (omega (arith, big, e)))) none
free_behind (suc (suc (suc z))) l (b ∷ s) = absurd (omega arith)

-- an escaping holds nothing that may not stand in a unit
pub escaping_is_free : (s : List ℕ) → forbidden (escaped s) ≡ false
escaping_is_free s = free_behind 0 (omega arith) s

-- ---- bytes in which nothing stands that may not

-- the last byte is not 00; behind `z` zero bytes
abbrev ends_open : ℕ → List ℕ → Bool
ends_open z [] = eqb z 0
ends_open z (b ∷ s) = ends_open (zeros_behind z b) s

open_end : (z : ℕ) (s : List ℕ) (b : ℕ) → (b ≡ 0 → ⊥) → ends_open z (s ++ (b ∷ [])) ≡ true
open_end z [] b n = rw (ne_eqb b 0 n) refl
open_end z (a ∷ s) b n = open_end (zeros_behind z a) s b n

-- neither of two tests holds
pub or_false : (a b : Bool) → (a || b) ≡ false → (a ≡ false) × (b ≡ false)
or_false true b e = absurd (true≢false e)
or_false false b e = (refl, e)

-- three zero bytes
bad_zero : (s : List ℕ) → forbidden (0 ∷ 0 ∷ 0 ∷ s) ≡ true
unfolding forbidden
bad_zero s = refl

-- where one was inserted, the byte behind it is one that needs it
needed : (c : ℕ) (s : List ℕ) → forbidden (0 ∷ 0 ∷ 3 ∷ c ∷ s) ≡ false → c ≤ 3
unfolding forbidden
needed c s f = ltb-false 3 c (or_false (ltb 3 c) (forbidden (0 ∷ 3 ∷ c ∷ s)) f).0

-- before a byte that needs it one is inserted, and then it is as at the beginning
escaped_there : (c : ℕ) (s : List ℕ) → c ≤ 3 → escaped_behind 2 (c ∷ s) ≡ 3 ∷ escaped_behind 0 (c ∷ s)
unfolding escaped_behind
escaped_there c s h = rw (le-leb c 3 h) refl

-- how many zero bytes stand before makes no difference, if there is one
some_zeros : (y z : ℕ) (s : List ℕ) → ends_open (suc y) s ≡ ends_open (suc z) s
some_zeros y z [] = rw (ne_eqb (suc y) 0 (λ e. absurd (omega (arith, e))), ne_eqb (suc z) 0 (λ e. absurd (omega (arith, e)))) refl
some_zeros y z (b ∷ s) = go (eqb b 0) (some_zeros (suc y) (suc z) s)
  where
    go : (t : Bool) → ends_open (suc (suc y)) s ≡ ends_open (suc (suc z)) s → ends_open (cond t (suc (suc y)) 0) s ≡ ends_open (cond t (suc (suc z)) 0) s
    go true h = h
    go false h = refl

open_same : (c : ℕ) (s : List ℕ) → ends_open 0 (c ∷ s) ≡ ends_open 2 (c ∷ s)
open_same c s = go (eqb c 0)
  where
    go : (t : Bool) → ends_open (cond t 1 0) s ≡ ends_open (cond t 3 0) s
    go true = some_zeros 0 2 s
    go false = refl

restored_behind : (z : ℕ) → z ≤ 2 → (s : List ℕ) → forbidden (zeros z ++ s) ≡ false → ends_open z (removed_behind z s) ≡ true → escaped_behind z (removed_behind z s) ≡ s
unfolding removed_behind escaped_behind
restored_behind z l [] f o = refl
restored_behind zero l (b ∷ s) f o = go (eqb b 0) refl (restored_behind 1 (omega arith) s) (restored_behind 0 (omega arith) s) o
  where
    go : (t : Bool) → eqb b 0 ≡ t
        → (forbidden (0 ∷ s) ≡ false → ends_open 1 (removed_behind 1 s) ≡ true → escaped_behind 1 (removed_behind 1 s) ≡ s)
        → (forbidden s ≡ false → ends_open 0 (removed_behind 0 s) ≡ true → escaped_behind 0 (removed_behind 0 s) ≡ s)
        → ends_open (cond t 1 0) (removed_behind (cond t 1 0) s) ≡ true → b ∷ escaped_behind (cond t 1 0) (removed_behind (cond t 1 0) s) ≡ b ∷ s
    go true q one none p = ap (λ (x : List ℕ). b ∷ x) (one (rw (eqb-true b 0 q) at f) p)
    go false q one none p = ap (λ (x : List ℕ). b ∷ x) (none (sym (behind_none b (eqb-false b 0 q) s) ∙ f) p)
restored_behind (suc zero) l (b ∷ s) f o = go (eqb b 0) refl (restored_behind 2 (omega arith) s) (restored_behind 0 (omega arith) s) o
  where
    go : (t : Bool) → eqb b 0 ≡ t
        → (forbidden (0 ∷ 0 ∷ s) ≡ false → ends_open 2 (removed_behind 2 s) ≡ true → escaped_behind 2 (removed_behind 2 s) ≡ s)
        → (forbidden s ≡ false → ends_open 0 (removed_behind 0 s) ≡ true → escaped_behind 0 (removed_behind 0 s) ≡ s)
        → ends_open (cond t 2 0) (removed_behind (cond t 2 0) s) ≡ true → b ∷ escaped_behind (cond t 2 0) (removed_behind (cond t 2 0) s) ≡ b ∷ s
    go true q two none p = ap (λ (x : List ℕ). b ∷ x) (two (rw (eqb-true b 0 q) at f) p)
    go false q two none p = ap (λ (x : List ℕ). b ∷ x) (none (sym (behind_one b (eqb-false b 0 q) s) ∙ f) p)
restored_behind (suc (suc zero)) l (b ∷ s) f o = go (eqb b 3) refl (eqb b 0) refl s (restored_behind 0 (omega arith) s) f o
  where
    go : (e : Bool) → eqb b 3 ≡ e → (t : Bool) → eqb b 0 ≡ t → (s : List ℕ)
        → (forbidden s ≡ false → ends_open 0 (removed_behind 0 s) ≡ true → escaped_behind 0 (removed_behind 0 s) ≡ s)
        → forbidden (0 ∷ 0 ∷ b ∷ s) ≡ false → ends_open 2 (left_out e b (removed_behind (cond t 3 0) s)) ≡ true → escaped_behind 2 (left_out e b (removed_behind (cond t 3 0) s)) ≡ b ∷ s
    go true p true q s none f o = absurd (omega (arith, eqb-true b 3 p, eqb-true b 0 q))
    go true p false q [] none f o = absurd (false≢true o)
    go true p false q (c ∷ s) none f o =
        let g : forbidden (0 ∷ 0 ∷ 3 ∷ c ∷ s) ≡ false = rw (eqb-true b 3 p) at f in
        let rest : forbidden (c ∷ s) ≡ false = (or_false (ends_badly 3 (c ∷ s)) (forbidden (c ∷ s)) (sym (behind_two 3 three (c ∷ s)) ∙ g)).1 in
        escaped_there c (removed_behind (zeros_behind 0 c) s) (needed c s g) ∙ ap (λ (x : List ℕ). 3 ∷ x) (none rest (open_same c (removed_behind (zeros_behind 0 c) s) ∙ o)) ∙ ap (λ (x : ℕ). x ∷ c ∷ s) (sym (eqb-true b 3 p))
    go false p true q s none f o = absurd (true≢false (sym (bad_zero s) ∙ (rw (eqb-true b 0 q) at f)))
    go false p false q s none f o =
        let parts = or_false (ends_badly b s) (forbidden s) (sym (behind_two b (eqb-false b 0 q) s) ∙ f) in
        let big : 3 ≤ b = ltb-false b 3 (or_false (ltb b 3) (eqb b 3 && begins_above 3 s) parts.0).0 in
        let above : leb b 3 ≡ false = lt-leb b 3 (omega (arith, big, eqb-false b 3 p)) in
        rw (above, q) (ap (λ (x : List ℕ). b ∷ x) (none parts.1 (ap (λ (t : Bool). ends_open (cond t 3 0) (removed_behind 0 s)) (sym q) ∙ o)))
restored_behind (suc (suc (suc z))) l (b ∷ s) f o = absurd (omega arith)

-- they are the one escaping of what is left of them without their emulation bytes, if that ends with another byte than 00
pub free_is_an_escaping : (s t : List ℕ) (b : ℕ) → forbidden s ≡ false → removed s ≡ t ++ (b ∷ []) → (b ≡ 0 → ⊥) → s ≡ escaped (t ++ (b ∷ []))
free_is_an_escaping s t b f e n = sym (restored_behind 0 (omega arith) s f (ap (ends_open 0) e ∙ open_end 0 t b n)) ∙ ap escaped e

-- ---- what may not stand, in 02's words

abbrev found_here : (b : ℕ) (s : List ℕ) → begins_forbidden (b ∷ s) ≡ true → StartCodeInside (b ∷ s)
found_here b [] e = absurd (false≢true e)
found_here b (c ∷ []) e = absurd (false≢true e)
found_here b (c ∷ d ∷ s) e =
    let p = and_parts (eqb b 0 && eqb c 0) (ends_badly d s) e in
    let q = and_parts (eqb b 0) (eqb c 0) p.0 in
    let here : b ∷ c ∷ d ∷ s ≡ [] ++ (0 ∷ 0 ∷ d ∷ s) = ap (λ (x : ℕ). x ∷ c ∷ d ∷ s) (eqb-true b 0 q.0) ∙ ap (λ (x : ℕ). 0 ∷ x ∷ d ∷ s) (eqb-true c 0 q.1) in
    record { before = []; third = d; behind = s; stands = here; is = go (ltb d 3) refl s p.1 }
  where
    above : (t : List ℕ) → begins_above 3 t ≡ true → (fourth : ℕ) × (rest : List ℕ) × (t ≡ fourth ∷ rest) × (3 < fourth)
    above [] e = absurd (false≢true e)
    above (x ∷ t) e = (x, t, refl, ltb-true 3 x e)

    go : (u : Bool) → ltb d 3 ≡ u → (t : List ℕ) → (u || (eqb d 3 && begins_above 3 t)) ≡ true → (d < 3) ⊎ ((d ≡ 3) × (fourth : ℕ) × (rest : List ℕ) × (t ≡ fourth ∷ rest) × (3 < fourth))
    go true q t e = inl (ltb-true d 3 q)
    go false q t e = let r = and_parts (eqb d 3) (begins_above 3 t) e in let a = above t r.1 in inr (eqb-true d 3 r.0, a.0, a.1, a.2, a.3)

-- it is found exactly where it stands
pub forbidden_stands : (s : List ℕ) → forbidden s ≡ true → StartCodeInside s
unfolding forbidden
forbidden_stands [] e = absurd (false≢true e)
forbidden_stands (b ∷ s) e = go (begins_forbidden (b ∷ s)) refl e (forbidden_stands s)
  where
    go : (t : Bool) → begins_forbidden (b ∷ s) ≡ t → (t || forbidden s) ≡ true → (forbidden s ≡ true → StartCodeInside s) → StartCodeInside (b ∷ s)
    go true q e h = found_here b s q
    go false q e h = let r = h e in record { before = b ∷ r.before; third = r.third; behind = r.behind; stands = ap (λ (l : List ℕ). b ∷ l) r.stands; is = r.is }

found_behind : (before s : List ℕ) → forbidden s ≡ true → forbidden (before ++ s) ≡ true
unfolding forbidden
found_behind [] s e = e
found_behind (b ∷ before) s e = rw (found_behind before s e) (or-true (begins_forbidden (b ∷ before ++ s)))

pub what_stands_is_forbidden : (s : List ℕ) → StartCodeInside s → forbidden s ≡ true
unfolding forbidden
what_stands_is_forbidden s c = ap forbidden c.stands ∙ found_behind c.before (0 ∷ 0 ∷ c.third ∷ c.behind) (go c.third c.behind c.is)
  where
    go : (d : ℕ) (t : List ℕ) → (d < 3) ⊎ ((d ≡ 3) × (fourth : ℕ) × (rest : List ℕ) × (t ≡ fourth ∷ rest) × (3 < fourth)) → forbidden (0 ∷ 0 ∷ d ∷ t) ≡ true
    go d t (inl l) = rw (lt-ltb d 3 l) refl
    go d t (inr q) = rw (q.0, q.3, lt-ltb 3 q.1 q.4) refl

-- ---- bytes stay bytes, and how many they are

removed_are_bytes : (z : ℕ) (s : List ℕ) → Bytes s → Bytes (removed_behind z s)
unfolding removed_behind
removed_are_bytes z [] h = tt
removed_are_bytes z (b ∷ s) h = go (is_emulation z b) (removed_are_bytes (zeros_behind z b) s h.1)
  where
    go : (t : Bool) → Bytes (removed_behind (zeros_behind z b) s) → Bytes (left_out t b (removed_behind (zeros_behind z b) s))
    go true k = k
    go false k = (h.0, k)

pub removed_bytes : (s : List ℕ) → Bytes s → Bytes (removed s)
removed_bytes s h = removed_are_bytes 0 s h

escaped_are_bytes : (z : ℕ) (s : List ℕ) → Bytes s → Bytes (escaped_behind z s)
unfolding escaped_behind
escaped_are_bytes z [] h = tt
escaped_are_bytes z (b ∷ s) h = go (needs_emulation z b) (escaped_are_bytes (zeros_behind (cond (needs_emulation z b) 0 z) b) s h.1)
  where
    go : (t : Bool) → Bytes (escaped_behind (zeros_behind (cond (needs_emulation z b) 0 z) b) s) → Bytes (put_before t (b ∷ escaped_behind (zeros_behind (cond (needs_emulation z b) 0 z) b) s))
    go true k = (omega arith, (h.0, k))
    go false k = (h.0, k)

pub escaped_bytes : (s : List ℕ) → Bytes s → Bytes (escaped s)
escaped_bytes s h = escaped_are_bytes 0 s h

-- one byte is inserted for two at most
escaped_not_much_longer : (z : ℕ) (s : List ℕ) → 2 * length (escaped_behind z s) ≤ 3 * length s + z
unfolding escaped_behind
escaped_not_much_longer z [] = omega arith
escaped_not_much_longer z (b ∷ s) = go (needs_emulation z b) refl (eqb b 0) (escaped_not_much_longer 1 s) (escaped_not_much_longer (suc z) s) (escaped_not_much_longer 0 s)
  where
    go : (t : Bool) → needs_emulation z b ≡ t → (u : Bool) → 2 * length (escaped_behind 1 s) ≤ 3 * length s + 1 → 2 * length (escaped_behind (suc z) s) ≤ 3 * length s + suc z → 2 * length (escaped_behind 0 s) ≤ 3 * length s + 0
        → 2 * length (put_before t (b ∷ escaped_behind (cond u (suc (cond t 0 z)) 0) s)) ≤ 3 * suc (length s) + z
    go true q true one more none = omega (arith, one, leb-true 2 z (and_parts (behind_two_zeros z) (leb b 3) q).0)
    go true q false one more none = omega (arith, none, leb-true 2 z (and_parts (behind_two_zeros z) (leb b 3) q).0)
    go false q true one more none = omega (arith, more)
    go false q false one more none = omega (arith, none)

pub escaped_fits : (s : List ℕ) → 2 * length (escaped s) ≤ 3 * length s
escaped_fits s = omega (arith, escaped_not_much_longer 0 s)

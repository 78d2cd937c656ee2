-- Each of 30 to 33 is given exactly when 02 says so, over the whole unit; else our first message decides.
use Prim.Native.Nat.{ℕ, ◌≤◌}
use mathlib.Core.Path.{◌≡◌, refl, ap, sym, subst, ◌∙◌}
use mathlib.Core.List.{List, [], ◌∷◌, ◌++◌}
use mathlib.Core.Bool.{Bool, true, false, true≢false}
use mathlib.Core.Option.{Option, none, some}
use mathlib.Core.Logic.{◌⊎◌, inl, inr}
use native.Mathlib.Omega.{arith}
use lib.ListN.{length, drop}
use Rattle.refusals.specs.Refusals.{wrong_unit, start_code_inside, broken_messages, none_of_ours}
use Rattle.tree.specs.Bits.{Bytes}
use Rattle.tree.proofs.Lists.{bytes_drop}
use Rattle.reader.specs.Reading.{unplaced}
use Rattle.wrapper.specs.Wrapper.{read_wrapped}
use Rattle.emulation.specs.Emulation.{forbidden, removed, escaped, StartCodeInside}
use Rattle.emulation.proofs.Laws.{removing_undoes_inserting, escaping_is_free, free_is_an_escaping, forbidden_stands, what_stands_is_forbidden, behind_a_header, removed_bytes}
use Rattle.rbsp.specs.Message.{Message, messages_in, first_of_ours, sei_rbsp, all_messages, FirstOurs, OneOrMore}
use Rattle.messages.specs.Answer.{read_first, read_ours, read_messages}
use Rattle.rbsp.proofs.Laws.{messages_are_read, messages_only, not_read_is_broken, broken_is_not_read, first_of_ours_lem, first_of_ours_only, none_ours_lem, none_ours_none}
use Rattle.sei.specs.Header.{nuh_temporal_id_plus1, admitted, most_unit_bytes, WrongUnit, AllowedHeader}
use Rattle.sei.specs.SeiUnit.{unit_of, read_unit}
use Rattle.sei.specs.Units.{body_of, Thirty, ThirtyOne, ThirtyTwo, ThirtyThree, HoldsOurs, IsUnit}
use Rattle.sei.proofs.Header.{not_admitted_is_wrong, wrong_is_not_admitted, admitted_is, is_admitted_lem}

-- ---- what decides, decided

right_is_admitted : (u : List ℕ) → Bytes u → (WrongUnit u → ⊥) → admitted u ≡ true
right_is_admitted u h n = go (admitted u) refl
  where
    go : (t : Bool) → admitted u ≡ t → admitted u ≡ true
    go true q = q
    go false q = absurd (n (not_admitted_is_wrong u h q))

none_inside_lem : (u : List ℕ) → (StartCodeInside u → ⊥) → forbidden u ≡ false
none_inside_lem u n = go (forbidden u) refl
  where
    go : (t : Bool) → forbidden u ≡ t → forbidden u ≡ false
    go false q = q
    go true q = absurd (n (forbidden_stands u q))

-- ---- each is given

pub gets_30 : (u : List ℕ) → Thirty u → read_unit u ≡ unplaced wrong_unit
gets_30 u w = rw (wrong_is_not_admitted u w) refl

module _ (u : List ℕ) (h : Bytes u) where
  pub gets_31 : ThirtyOne u → read_unit u ≡ unplaced start_code_inside
  gets_31 t = rw (right_is_admitted u h t.right_unit, what_stands_is_forbidden u t.inside) refl

  -- the messages decide
  by_messages : (WrongUnit u → ⊥) → (StartCodeInside u → ⊥) → read_unit u ≡ read_messages (body_of u)
  by_messages r n = rw (right_is_admitted u h r, none_inside_lem u n) refl

  pub gets_32 : ThirtyTwo u → read_unit u ≡ unplaced broken_messages
  gets_32 t = by_messages t.right_unit t.none_inside ∙ ap read_ours (broken_is_not_read (body_of u) t.is_broken)

  pub gets_33 : ThirtyThree u → read_unit u ≡ unplaced none_of_ours
  gets_33 t =
      by_messages t.right_unit t.none_inside ∙ ap read_messages t.all ∙ ap read_ours (messages_are_read t.messages t.one_or_more) ∙ ap read_first (none_ours_none t.messages t.none_ours)

  -- the first of ours goes to the reader of wrapped data, whose answer stands
  pub ours_is_read : (m : Message) → HoldsOurs u m → read_unit u ≡ read_wrapped m.content
  ours_is_read m t =
      by_messages t.right_unit t.none_inside ∙ ap read_messages t.all ∙ ap read_ours (messages_are_read t.messages t.one_or_more) ∙ ap read_first (first_of_ours_lem t.messages m t.first)

  -- ---- and one of them holds of every unit

  pub one_of_five : Thirty u ⊎ (ThirtyOne u ⊎ (ThirtyTwo u ⊎ (ThirtyThree u ⊎ ((m : Message) × HoldsOurs u m))))
  one_of_five = go (admitted u) refl
    where
      right : admitted u ≡ true → WrongUnit u → ⊥
      right q w = true≢false (sym q ∙ wrong_is_not_admitted u w)

      free : forbidden u ≡ false → StartCodeInside u → ⊥
      free q s = true≢false (sym (what_stands_is_forbidden u s) ∙ q)

      ours : admitted u ≡ true → forbidden u ≡ false → (ms : List Message) → OneOrMore ms × (body_of u ≡ sei_rbsp ms) → (o : Option Message) → first_of_ours ms ≡ o → ThirtyThree u ⊎ ((m : Message) × HoldsOurs u m)
      ours q r ms k none e = inl (record { right_unit = right q; none_inside = free r; messages = ms; one_or_more = k.0; all = k.1; none_ours = none_ours_lem ms e })
      ours q r ms k (some m) e = inr (m, record { right_unit = right q; none_inside = free r; messages = ms; one_or_more = k.0; all = k.1; first = first_of_ours_only ms m e })

      body : Bytes (body_of u)
      body = removed_bytes (drop 2 u) (bytes_drop 2 u h)

      broken : admitted u ≡ true → forbidden u ≡ false → (o : Option (List Message)) → messages_in (body_of u) ≡ o → ThirtyTwo u ⊎ (ThirtyThree u ⊎ ((m : Message) × HoldsOurs u m))
      broken q r none e = inl (record { right_unit = right q; none_inside = free r; is_broken = not_read_is_broken (body_of u) body e })
      broken q r (some ms) e = inr (ours q r ms (messages_only (body_of u) body ms e) (first_of_ours ms) refl)

      inside : admitted u ≡ true → (t : Bool) → forbidden u ≡ t → ThirtyOne u ⊎ (ThirtyTwo u ⊎ (ThirtyThree u ⊎ ((m : Message) × HoldsOurs u m)))
      inside q true r = inl (record { right_unit = right q; inside = forbidden_stands u r })
      inside q false r = inr (broken q r (messages_in (body_of u)) refl)

      go : (t : Bool) → admitted u ≡ t → Thirty u ⊎ (ThirtyOne u ⊎ (ThirtyTwo u ⊎ (ThirtyThree u ⊎ ((m : Message) × HoldsOurs u m))))
      go false q = inl (not_admitted_is_wrong u h q)
      go true q = inr (inside q (forbidden u) refl)

-- ---- the one form of a unit that is none of 30, 31 and 32

-- the second byte of a header as 02 allows is not 00
temporal_not_zero : (a b : ℕ) → AllowedHeader a b → b ≡ 0 → ⊥
temporal_not_zero a b h e = h.temporal (ap nuh_temporal_id_plus1 e)

-- it is a header as 02 allows, then the one escaping of its messages and the byte 80
pub is_a_unit : (u : List ℕ) → Bytes u → (WrongUnit u → ⊥) → (StartCodeInside u → ⊥) → (ms : List Message) → body_of u ≡ sei_rbsp ms → IsUnit u ms
is_a_unit u h r n ms e =
    let d = admitted_is u (right_is_admitted u h r) in
    let a = d.first in
    let b = d.second in
    let f : forbidden d.body ≡ false = sym (behind_a_header a b d.body (temporal_not_zero a b d.header)) ∙ ap forbidden (sym d.all) ∙ none_inside_lem u n in
    let k : removed d.body ≡ sei_rbsp ms = ap body_of (sym d.all) ∙ e in
    let x : d.body ≡ escaped (sei_rbsp ms) = free_is_an_escaping d.body (all_messages ms) 0x80 f k (λ z. absurd (omega (arith, z))) in
    record { first = a; second = b; header = d.header; few = d.few; is = d.all ∙ ap (λ (l : List ℕ). a ∷ b ∷ l) x }

-- and each such unit that is not too long is none of 30, 31 and 32
module _ (a b : ℕ) (h : AllowedHeader a b) (ms : List Message) (l : length (unit_of a b ms) ≤ most_unit_bytes) where
  unit_is_right : WrongUnit (unit_of a b ms) → ⊥
  unit_is_right w = true≢false (sym (is_admitted_lem a b (escaped (sei_rbsp ms)) h l) ∙ wrong_is_not_admitted (unit_of a b ms) w)

  unit_is_free : forbidden (unit_of a b ms) ≡ false
  unit_is_free = behind_a_header a b (escaped (sei_rbsp ms)) (temporal_not_zero a b h) ∙ escaping_is_free (sei_rbsp ms)

  unit_body : body_of (unit_of a b ms) ≡ sei_rbsp ms
  unit_body = removing_undoes_inserting (sei_rbsp ms)

  pub unit_is_read : (m : Message) → FirstOurs ms m → read_unit (unit_of a b ms) ≡ read_wrapped m.content
  unit_is_read m f =
      rw (is_admitted_lem a b (escaped (sei_rbsp ms)) h l, unit_is_free)
      (ap read_messages unit_body ∙ ap read_ours (messages_are_read ms (some_ours ms m f)) ∙ ap read_first (first_of_ours_lem ms m f))
    where
      some_ours : (ms : List Message) (m : Message) → FirstOurs ms m → OneOrMore ms
      some_ours ms m f = subst OneOrMore (sym f.all) (go f.before)
        where
          go : (before : List Message) → OneOrMore (before ++ (m ∷ f.behind))
          go [] = tt
          go (n ∷ before) = tt

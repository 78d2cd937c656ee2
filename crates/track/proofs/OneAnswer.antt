-- Each public contract admits one answer, and one later content of the lent table: said of the contract's own clauses.
use mathlib.Core.Path.{◌≡◌, sym, ◌∙◌}
use mathlib.Core.List.{List}
use seplogic.Ra.Ura.{Ura}
use base.Logic.{SProp, ent, sep, via, fst∗, snd∗}
use prog.Memory.{Memory}
use prog.Routine.{Routine}
use types.Logic.{Logic}
use contract.Lifetimes.{Lfts}
use contract.Monad.{Fun, fact, fact_i, fact_use}
use denote.Triple.Clauses.{Ended, Clauses, AtExit}
use denote.Triple.Entry.{Args, Res}
use Rattle.track.specs.declared.Point.{Point}
use Rattle.track.specs.contracts.cleared_point as cleared-point
use Rattle.track.specs.contracts.note_point as note-point
use Rattle.track.specs.contracts.lookup as lookup
use Rattle.track.specs.contracts.join as join
use Rattle.track.specs.contracts.place as place

-- no two results meet the contract at the same arguments
abbrev pub OneResult : {M : Type 1} (𝓤 : Ura M) (T : Ended) → Clauses 𝓤 T → Type 1
OneResult 𝓤 T c =
    (κs : Lfts T.signature.lifetimes) (a : Args T.signature κs) (g h : (c κs a).ghost) (x y : Res T.signature κs) (s t : AtExit T κs)
    → ent 𝓤 (sep 𝓤 ((c κs a).ensures g x s) ((c κs a).ensures h y t)) (fact 𝓤 (x ≡ y))

-- no two results, and no two later contents of the lent table
abbrev pub OneResultAndTable : {M : Type 1} (𝓤 : Ura M) (T : Ended) → Clauses 𝓤 T → ((κs : Lfts T.signature.lifetimes) → AtExit T κs → List Point) → Type 1
OneResultAndTable 𝓤 T c table =
    (κs : Lfts T.signature.lifetimes) (a : Args T.signature κs) (g h : (c κs a).ghost) (x y : Res T.signature κs) (s t : AtExit T κs)
    → ent 𝓤 (sep 𝓤 ((c κs a).ensures g x s) ((c κs a).ensures h y t)) (fact 𝓤 ((x ≡ y) × (table κs s ≡ table κs t)))

module _ {M : Type 1} (𝓤 : Ura M) where
  -- what two facts say together
  two : (φ ψ χ : Type 0) → (φ → ψ → χ) → ent 𝓤 (sep 𝓤 (fact 𝓤 φ) (fact 𝓤 ψ)) (fact 𝓤 χ)
  two φ ψ χ k =
      let P : SProp 𝓤 = sep 𝓤 (fact 𝓤 φ) (fact 𝓤 ψ) in
      fact_use 𝓤 φ (fst∗ 𝓤 (fact 𝓤 φ) (fact 𝓤 ψ)) (λ x. fact_use 𝓤 ψ (snd∗ 𝓤 (fact 𝓤 φ) (fact 𝓤 ψ)) (λ y. fact_i 𝓤 χ P (k x y)))

  four : (φ φ' ψ ψ' χ : Type 0) → (φ → φ' → ψ → ψ' → χ) → ent 𝓤 (sep 𝓤 (sep 𝓤 (fact 𝓤 φ) (fact 𝓤 φ')) (sep 𝓤 (fact 𝓤 ψ) (fact 𝓤 ψ'))) (fact 𝓤 χ)
  four φ φ' ψ ψ' χ k =
      let L : SProp 𝓤 = sep 𝓤 (fact 𝓤 φ) (fact 𝓤 φ') in
      let R : SProp 𝓤 = sep 𝓤 (fact 𝓤 ψ) (fact 𝓤 ψ') in
      let P : SProp 𝓤 = sep 𝓤 L R in
      fact_use 𝓤 (φ × φ') (via 𝓤 L (fst∗ 𝓤 L R) (two φ φ' (φ × φ') (λ x x'. (x, x'))))
      (λ x. fact_use 𝓤 (ψ × ψ') (via 𝓤 R (snd∗ 𝓤 L R) (two ψ ψ' (ψ × ψ') (λ y y'. (y, y')))) (λ y. fact_i 𝓤 χ P (k x.0 x.1 y.0 y.1)))

  module _ (𝓛 : Logic 𝓤) (mem : Memory → SProp 𝓤) (run : Routine → Fun 𝓤) where
    pub cleared_point_one : OneResult 𝓤 cleared-point.ended (cleared-point.clauses 𝓛 mem run)
    cleared_point_one κs a g h x y s t = two _ _ (x ≡ y) (λ e f. e ∙ sym f)

    pub note_point_one : OneResult 𝓤 note-point.ended (note-point.clauses 𝓛 mem run)
    note_point_one κs a g h x y s t = two _ _ (x ≡ y) (λ e f. e ∙ sym f)

    pub lookup_one : OneResult 𝓤 lookup.ended (lookup.clauses 𝓛 mem run)
    lookup_one κs a g h x y s t = two _ _ (x ≡ y) (λ e f. e ∙ sym f)

    pub join_one : OneResultAndTable 𝓤 join.ended (join.clauses 𝓛 mem run) (λ κs s. s.1.1.1.1.0.now)
    join_one κs a g h x y s t = four _ _ _ _ ((x ≡ y) × (s.1.1.1.1.0.now ≡ t.1.1.1.1.0.now)) (λ e e' f f'. (e ∙ sym f, e' ∙ sym f'))

    pub place_one : OneResultAndTable 𝓤 place.ended (place.clauses 𝓛 mem run) (λ κs s. s.1.1.1.0.now)
    place_one κs a g h x y s t = four _ _ _ _ ((x ≡ y) × (s.1.1.1.0.now ≡ t.1.1.1.0.now)) (λ e e' f f'. (e ∙ sym f, e' ∙ sym f'))

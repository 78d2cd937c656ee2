use mathlib.Core.Path.{◌≡◌, sym, ◌∙◌, ap}
use mir.Syntax.{w32}
use mir.Val.{SFits}
use mir.ValLaws.{to_z-of_z}
use Prim.Native.Nat.{ℕ}
use Rattle.track.specs.Track.{none_in_force}
use Rattle.track.specs.Inner.{point_at, held_of, look_from}
use Rattle.track.proofs.Looking.{look_is, seek}
use Rattle.track.proofs.lookup.Goals as goal
use Rattle.track.proofs.lookup.Goals.{After-seek, in-Ok-None, in-Err}

-- what is sought is what is sought in the table
sought : (c : After-seek) → let a = c.args in c.seek.result ≡ seek a.table.now a.count a.picture
sought c =
    let fits : SFits w32 c.args.picture = c.ranges.picture in
    rw (← c.scan-seen.ensures) (simp to_z-of_z at c.seek.ensures)

pub returns-in-Ok-Some : goal.returns-in-Ok-Some
returns-in-Ok-Some c =
    let a = c.args in
    let t = a.table.now in
    let s = sought (goal.at.returns-in-Ok-Some c).After-seek in
    record {
      answer = c.held.ensures ∙ ap (λ (i : ℕ). held_of (point_at t i)) c.from.ensures ∙ ap (look_from t) (sym (rw c.in-Ok-Some.field-0-is at c.in-Ok-Some.is) ∙ s)
          ∙ look_is t a.count a.picture;
    }

pub returns : goal.returns
returns c =
    let a = c.args in
    let t = a.table.now in
    let s = sought (goal.at.returns c).After-seek in
    let told : none_in_force c.match-seek.number ≡ look_from t c.seek.result =
    elim c.match-seek.branch [
      | in-Ok-None w ↦ ap none_in_force w.number-is ∙ ap (look_from t) (sym (rw w.in-Ok-None.field-0-is at w.in-Ok-None.is))
      | in-Err w ↦ ap none_in_force (w.number-is ∙ w.number-number.ensures) ∙ ap (look_from t) (sym w.in-Err.is)
    ] in
    record { answer = c.missing.ensures ∙ told ∙ ap (look_from t) s ∙ look_is t a.count a.picture }

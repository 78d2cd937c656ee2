-- A refusal on its way, by its parts.
use Rattle.std.specs.Prelude.{ℕ}
use Rattle.refusals.specs.declared.Refusal.{Refusal}
use Rattle.bits.specs.declared.Unread.{Unread}
use Rattle.element.specs.declared.Element.{Element}
use Rattle.element.specs.declared.Refused.{Refused}

abbrev pub refused : Refusal → Element → ℕ → Refused
refused r e at = record { refusal = r; element = e; offset = at }

-- what could not be read was this element
abbrev pub unread_of : Element → Unread → Refused
unread_of e u = refused u.refusal e u.offset

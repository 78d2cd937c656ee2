-- A page: text typed into a lent buffer from a place on.
use Rattle.std.specs.Prelude.{ℕ, ◌≡◌, List}
use Rattle.text.specs.declared.Page.{Page}
use Rattle.text.specs.Typing.{RoomForText, Typed}

-- behind the page's place there is room for the bytes
abbrev pub HasRoom : Page → List ℕ → Type 0
HasRoom page bytes = RoomForText page.out.now page.at bytes

-- the bytes were typed at the page's place, which is behind them now; it is a page of the same buffer
pub record TypedOn (page : Page) (bytes : List ℕ) (page' : Page) : Type 0 where
  pub typed : Typed page.out.now page.at bytes page'.out.now page'.at
  pub same : page'.out.ghost_name ≡ page.out.ghost_name

-- `listing::try_write` meets its contract: a page has room for every listing.
use mathlib.Core.Path.{◌≡◌, sym, ◌∙◌}
use mathlib.Core.Bool.{true}
use native.Mathlib.Omega.{arith}
use Rattle.listing.specs.Listing.{listable}
use Rattle.listing.proofs.Longest.{no_listing_is_longer, longest_bytes}
use Rattle.listing.proofs.try_write.Goals as goal

pub put_listing-requires : goal.put_listing-requires
put_listing-requires c =
    let judged : listable c.args.q ≡ true = sym c.is_listable.ensures ∙ c.if-not-is_listable.false in
    (omega (arith, no_listing_is_longer c.args.q (omega arith) (omega arith) judged, longest_bytes), judged)

-- Each public contract admits one answer, the buffer at exit included: said of the contract itself, as the check reads it.
use mathlib.Core.Path.{sym, ◌∙◌}
use Rattle.bits.proofs.OneAnswer.{OneResult, OneResultAndBuffer}
use Rattle.listing.proofs.write_listing.Kinds as write-listing
use Rattle.listing.proofs.write_listing.Reads as write-listing-contract
use Rattle.listing.proofs.most_bytes.Kinds as most_bytes
use Rattle.listing.proofs.most_bytes.Reads as most-bytes-contract

pub write_listing_one : OneResultAndBuffer write-listing.ps write-listing.r write-listing-contract.Post (λ κs s. s.1.0.now)
write_listing_one κs a x y s t b c e f = (e.0 ∙ sym f.0, e.1 ∙ sym f.1)

pub most_bytes_one : OneResult most_bytes.ps most_bytes.r most-bytes-contract.Post
most_bytes_one κs a x y s t e f = e ∙ sym f

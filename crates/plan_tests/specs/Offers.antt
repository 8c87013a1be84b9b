-- What may be added to a problem's offers. This project's own.
use Rattle.std.specs.Prelude.{◌≡◌, ◌≢◌, ◌+◌, ◌<◌, ◌≤◌, All}
use Rattle.plan_form.specs.declared.problem.Problem.{Problem}
use Rattle.plan_form.specs.declared.problem.Offer.{Offer}
use Rattle.plan_form.specs.Prelude.{last}

-- the offer of a tile that isn't offered yet leads one to three places on, at most to the last place, and there under the exit map
pub record MayBeOffered (q : Problem) (offer : Offer) : Type 0 where
  pub onward : offer.from < offer.to
  pub short : offer.to ≤ offer.from + 3
  pub within : offer.to ≤ last q
  pub at_end : offer.to ≡ last q → offer.map ≡ q.exit
  pub price : offer.price < 1024
  pub is_new : All (λ other. other.tile ≢ offer.tile) q.offers.items

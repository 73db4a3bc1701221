-- `direct::chanbook_direct_call` meets its contract.
-- Tried without: the search does not look for the law.
-- Assumes nothing.
use borrow.Author.Rules.{rules}
use Rattle.direct.specs.Direct.{direct_call}
use Rattle.direct.proofs.Calls.{direct_stands}
use Rattle.direct.proofs.chanbook_direct_call.Goals as goal

pub returns-clause-stands : goal.returns-clause-stands
unfolding direct_call
returns-clause-stands c = direct_stands _ _ _ _ (search rules)

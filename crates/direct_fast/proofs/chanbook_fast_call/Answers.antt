-- `direct_fast::chanbook_fast_call` meets its contract.
-- Tried without: the search does not look for the law.
-- Assumes nothing.
use borrow.Author.Rules.{rules}
use Rattle.direct_fast.specs.DirectFast.{fast_call}
use Rattle.direct_fast.proofs.FastCalls.{fast_stands}
use Rattle.direct_fast.proofs.chanbook_fast_call.Goals as goal

pub returns-clause-stands : goal.returns-clause-stands
unfolding fast_call
returns-clause-stands c = fast_stands _ _ _ _ (search rules)

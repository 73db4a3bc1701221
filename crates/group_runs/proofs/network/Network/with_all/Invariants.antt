-- `group_runs::network::Network::with_all` meets its contract: after each turn the message is under way to the members before this one.
-- Assumes nothing.
use Rattle.std.proofs.Common.{◌≡◌}
use Rattle.group_runs.specs.network.Network.{posted_to_all}
use Rattle.group_runs.proofs.network.Network.with_all.Given as goal

abbrev pub invariant-loop-member : goal.invariant-loop-member
invariant-loop-member l = l.network ≡ posted_to_all l.initial.network l.member l.message

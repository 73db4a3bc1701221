-- What the handlers ask of the settings and of a message.
-- Assumes nothing.
use Rattle.std.specs.Prelude.{Bool, false, cond, not, ◌&&◌, List, ℕ, eqb, None}
use Rattle.message.specs.Modes.{is_swift_paxos}
use Rattle.message.specs.declared.ConsensusMsg.{ConsensusMsg}
use Rattle.message.specs.declared.ConsensusMsg.TheVariants.{Prepare, Accept, ForwardRequest, Commit, ReadRequest, ReadResponse}
use Rattle.message.specs.declared.PFMode.{PFMode}
use Rattle.message.specs.declared.PaxosRound.{PaxosRound}
use Rattle.message.specs.declared.RoundV.TheVariants.{FastV, PaxosV}
use Rattle.settings.specs.Questions.{is_live_replica, is_replica, quorums_of, delegate_in, committer_of, starting_round_of}
use Rattle.settings.specs.declared.Settings.{Settings}
use Rattle.steps.specs.declared.Asked.{Asked}
use Rattle.steps.specs.declared.Heard.{Heard}
use Rattle.calls.specs.declared.delivery.Delivery.{Delivery}
use Rattle.calls.specs.declared.Call.{Call}
use Rattle.calls.specs.declared.Call.TheVariants.{Propose, StartRead, Receive}

abbrev pub asked_of : Settings → Asked
asked_of s =
    record {
      member = record { my_pid = s.my_pid; replica = is_replica s; quorums = quorums_of s };
      mode = s.mode;
      starting_round = starting_round_of s;
      first_leader = s.first_leader;
      quorum = s.quorum;
    }

-- in SwiftPaxos, at another than the leader, the proposer of a fast value gathers the answers
abbrev pub proposer_gathers : ℕ → PFMode → PaxosRound → Bool
proposer_gathers own mode round = is_swift_paxos mode && not (eqb round.leader own)

-- delegate_or_leader of process_message, at the process own
unfoldable pub gatherer_in : ℕ → PFMode → List ℕ → ConsensusMsg → ℕ
gatherer_in own mode delegates (Prepare slot round (FastV proposer v)) =
    cond (proposer_gathers own mode round) proposer (delegate_in delegates mode round.leader)
gatherer_in own mode delegates (Prepare slot round (PaxosV at v)) = delegate_in delegates mode round.leader
gatherer_in own mode delegates (Accept slot round v) = delegate_in delegates mode round.leader
gatherer_in own mode delegates (ForwardRequest v) = 0
gatherer_in own mode delegates (Commit slot v) = 0
gatherer_in own mode delegates (ReadRequest id) = 0
gatherer_in own mode delegates (ReadResponse id next) = 0

abbrev pub gatherer_of : Settings → ConsensusMsg → ℕ
gatherer_of s msg = gatherer_in s.my_pid s.mode s.delegates msg

abbrev pub heard_of : Settings → Delivery → Heard
heard_of s d =
    record {
      src = d.message.src;
      source_live = is_live_replica s d.message.src;
      delegate = gatherer_of s d.message.msg;
      requester = d.said.requester;
      committer = committer_of s d.said.requester;
      held_requester = d.held_requester;
    }

-- what a proposal and a new read hear
abbrev pub nothing_heard : Heard
nothing_heard =
    record { src = 0; source_live = false; delegate = 0; requester = None; committer = None; held_requester = None }

abbrev pub heard_in : Settings → Call → Heard
heard_in s (Propose v) = nothing_heard
heard_in s (StartRead tag arrival) = nothing_heard
heard_in s (Receive d) = heard_of s d

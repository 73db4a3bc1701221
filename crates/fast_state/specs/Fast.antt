-- The EPaxos and SwiftPaxos half of the round state: fast answers, proposers and their scores (the Rust's round_state.rs; document 01,
-- "Round state"). The number of fast answers is the size of their set in EPaxos, the only mode that compares it with a quorum; where the Rust
-- asserts that it is 0, the set is empty.
-- Assumes nothing.
use Rattle.std.specs.Prelude.{Bool, true, cond, not, ◌&&◌, List, ℕ, ◌-◌, leb, eqb, replicate, Option, None, Some, is_some, Result, Ok, Err}
use Rattle.basics.specs.sets.Sets.{contains, insert, size, is_empty}
use Rattle.basics.specs.tables.Tables.{look_up, store}
use Rattle.message.specs.Rounds.{increment}
use Rattle.message.specs.declared.Refusal.{Refusal}
use Rattle.message.specs.declared.Refusal.TheVariants.{Panic, SecondFastAnswer}
use Rattle.fast_state.specs.declared.TableChange.{TableChange}
use Rattle.fast_state.specs.declared.TableChange.TheVariants.{SameEntries, Recorded, EPaxosScored, SwiftScored}
use Rattle.fast_state.specs.declared.FastAnswers.{FastAnswers}
use Rattle.fast_state.specs.declared.FastChange.{FastChange}
use Rattle.fast_state.specs.declared.FastState.{FastState}
use Rattle.round_state.specs.declared.Member.{Member}

-- ---- what a call changes

-- the state without its tables
abbrev pub answers_of : FastState → FastAnswers
answers_of f =
    record {
      fast_answer_set = f.fast_answer_set;
      fast_preaccepted = f.fast_preaccepted;
      fast_proposers = f.fast_proposers;
      swift_leader_answer = f.swift_leader_answer;
    }

-- nothing is changed
abbrev pub unchanged : FastAnswers → FastChange
unchanged answers = record { answers = answers; entry = SameEntries }

-- the tables after a change: the value of one proposer is stored, and its score in the table of its mode
unfoldable pub to_v_after : TableChange → List ℕ → List ℕ
to_v_after SameEntries table = table
to_v_after (Recorded proposer v) table = store table proposer v
to_v_after (EPaxosScored proposer v score) table = store table proposer v
to_v_after (SwiftScored proposer v score) table = store table proposer v

unfoldable pub epaxos_scores_after : TableChange → List ℕ → List ℕ
epaxos_scores_after SameEntries table = table
epaxos_scores_after (Recorded proposer v) table = table
epaxos_scores_after (EPaxosScored proposer v score) table = store table proposer score
epaxos_scores_after (SwiftScored proposer v score) table = table

unfoldable pub swift_scores_after : TableChange → List ℕ → List ℕ
swift_scores_after SameEntries table = table
swift_scores_after (Recorded proposer v) table = table
swift_scores_after (EPaxosScored proposer v score) table = table
swift_scores_after (SwiftScored proposer v score) table = store table proposer score

-- the state after a change
abbrev pub changed : FastChange → FastState → FastState
changed change f =
    record {
      fast_answer_set = change.answers.fast_answer_set;
      fast_preaccepted = change.answers.fast_preaccepted;
      fast_proposers = change.answers.fast_proposers;
      fast_proposer_to_v = to_v_after change.entry f.fast_proposer_to_v;
      epaxos_proposer_scores = epaxos_scores_after change.entry f.epaxos_proposer_scores;
      swift_proposer_scores = swift_scores_after change.entry f.swift_proposer_scores;
      swift_leader_answer = change.answers.swift_leader_answer;
    }

-- ---- what both modes have in common

-- a state with no answer: as new and full_clear make it. "EPaxos scores start at 2"
abbrev pub no_answers : FastState
no_answers =
    record {
      fast_answer_set = 0;
      fast_preaccepted = 0;
      fast_proposers = 0;
      fast_proposer_to_v = replicate 64 0;
      epaxos_proposer_scores = replicate 64 2;
      swift_proposer_scores = replicate 64 0;
      swift_leader_answer = None;
    }

-- the answers for one's own proposal, after one more for a proposer
unfoldable pub preaccepted_after : Member → ℕ → ℕ → ℕ
preaccepted_after me proposer n = cond (eqb proposer me.my_pid) (increment n) n

-- a second answer: nothing if it is one's own, and else refused with 10
unfoldable pub second_answer : Member → ℕ → FastAnswers → Result FastChange Refusal
second_answer me src f = cond (eqb src me.my_pid) (Ok (unchanged f)) (Err SecondFastAnswer)

-- the assertions that both proposals make first: no answer, none preaccepted, no proposer
unfoldable pub is_unanswered : FastAnswers → Bool
is_unanswered f = is_empty f.fast_answer_set && eqb f.fast_preaccepted 0 && is_empty f.fast_proposers

-- ---- EPaxos

-- "+1 for an answer from another than the proposer, −1 from the proposer itself"
unfoldable pub score_after : ℕ → ℕ → ℕ → ℕ
score_after src proposer score = cond (eqb src proposer) (score - 1) (increment score)

-- the source and the proposer are recorded, with the proposer's value and its new score
abbrev pub epaxos_counted : Member → ℕ → ℕ → ℕ → FastAnswers → List ℕ → FastChange
epaxos_counted me src proposer v f scores =
    record {
      answers =
          record {
            fast_answer_set = insert f.fast_answer_set src;
            fast_preaccepted = preaccepted_after me proposer f.fast_preaccepted;
            fast_proposers = insert f.fast_proposers proposer;
            swift_leader_answer = f.swift_leader_answer;
          };
      entry = EPaxosScored proposer v (score_after src proposer (look_up scores proposer));
    }

-- epaxos_answered
unfoldable pub epaxos_answered : Member → ℕ → ℕ → ℕ → FastAnswers → List ℕ → Result FastChange Refusal
epaxos_answered me src proposer v f scores =
    cond (contains f.fast_answer_set src) (second_answer me src f) (Ok (epaxos_counted me src proposer v f scores))

-- epaxos_propose_v
unfoldable pub epaxos_propose_v : Member → ℕ → FastAnswers → List ℕ → Result FastChange Refusal
epaxos_propose_v me v f scores =
    cond (is_unanswered f && eqb (look_up scores me.my_pid) 2) (epaxos_answered me me.my_pid me.my_pid v f scores) (Err Panic)

-- epaxos_can_commit
abbrev pub epaxos_can_commit : Member → FastAnswers → Bool
epaxos_can_commit me f = eqb (size f.fast_proposers) 1 && leb me.quorums.epaxos f.fast_preaccepted

-- ---- SwiftPaxos

-- an answer counts from every process, or from those of the fixed quorum
abbrev pub in_quorum : Option ℕ → ℕ → Bool
in_quorum None src = true
in_quorum (Some quorum) src = contains quorum src

-- the leader's own answer, after an answer that may be the leader's
unfoldable pub leader_answer_after : Bool → ℕ → Option ℕ → Option ℕ
leader_answer_after leader v old = cond leader (Some v) old

-- the source and the proposer are recorded, with the proposer's value and one more for its score
abbrev pub swift_counted : Member → ℕ → ℕ → ℕ → Bool → FastAnswers → List ℕ → FastChange
swift_counted me src proposer v leader f scores =
    record {
      answers =
          record {
            fast_answer_set = insert f.fast_answer_set src;
            fast_preaccepted = preaccepted_after me proposer f.fast_preaccepted;
            fast_proposers = insert f.fast_proposers proposer;
            swift_leader_answer = leader_answer_after leader v f.swift_leader_answer;
          };
      entry = SwiftScored proposer v (increment (look_up scores proposer));
    }

-- an answer from outside the fixed quorum is uncounted, yet its proposer is recorded
abbrev pub swift_recorded : ℕ → ℕ → ℕ → FastAnswers → FastChange
swift_recorded src proposer v f =
    record {
      answers =
          record {
            fast_answer_set = insert f.fast_answer_set src;
            fast_preaccepted = f.fast_preaccepted;
            fast_proposers = insert f.fast_proposers proposer;
            swift_leader_answer = f.swift_leader_answer;
          };
      entry = Recorded proposer v;
    }

-- an answer from outside the fixed quorum, with the assertion that it is not the leader's
unfoldable pub swift_uncounted : ℕ → ℕ → ℕ → Bool → FastAnswers → Result FastChange Refusal
swift_uncounted src proposer v leader f = cond leader (Err Panic) (Ok (swift_recorded src proposer v f))

-- the first answer of a process
unfoldable pub swift_first : Member → ℕ → ℕ → ℕ → Option ℕ → Bool → FastAnswers → List ℕ → Result FastChange Refusal
swift_first me src proposer v quorum leader f scores =
    cond (in_quorum quorum src) (Ok (swift_counted me src proposer v leader f scores)) (swift_uncounted src proposer v leader f)

-- swift_answered
unfoldable pub swift_answered : Member → ℕ → ℕ → ℕ → Option ℕ → Bool → FastAnswers → List ℕ → Result FastChange Refusal
swift_answered me src proposer v quorum leader f scores =
    cond (contains f.fast_answer_set src) (second_answer me src f) (swift_first me src proposer v quorum leader f scores)

-- a replica answers its own proposal, and another process does not
unfoldable pub swift_own : Member → ℕ → Option ℕ → Bool → FastAnswers → List ℕ → Result FastChange Refusal
swift_own me v quorum leader f scores =
    cond me.replica (swift_answered me me.my_pid me.my_pid v quorum leader f scores) (Ok (unchanged f))

-- the assertions of swift_propose_v
unfoldable pub swift_unanswered : Member → FastAnswers → List ℕ → Bool
swift_unanswered me f scores = not (is_some f.swift_leader_answer) && (is_unanswered f && eqb (look_up scores me.my_pid) 0)

-- swift_propose_v
unfoldable pub swift_propose_v : Member → ℕ → Option ℕ → Bool → FastAnswers → List ℕ → Result FastChange Refusal
swift_propose_v me v quorum leader f scores =
    cond (swift_unanswered me f scores) (swift_own me v quorum leader f scores) (Err Panic)

-- quorum_required of swift_can_commit: with a fixed quorum a majority of preaccepts is enough, and without one the fast quorum is needed
unfoldable pub swift_quorum : Member → Bool → ℕ
swift_quorum me fixed = cond fixed me.quorums.majority me.quorums.fast

-- swift_can_commit
unfoldable pub swift_can_commit : Member → Bool → FastAnswers → Bool
swift_can_commit me fixed f =
    is_some f.swift_leader_answer && (eqb (size f.fast_proposers) 1 && leb (swift_quorum me fixed) f.fast_preaccepted)

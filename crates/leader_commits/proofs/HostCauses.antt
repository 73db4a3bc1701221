-- Of the causes for which a leader refuses an answer only the host's are left, where the answer is of its slot and round and has the value that it holds and
-- its last value.
-- Assumes nothing.
use Rattle.std.specs.Prelude.{Option, None, Some, Ok}
use Rattle.std.proofs.Math.Bool.{or-false}
use mathlib.Core.Path.{◌≡◌, refl, sym, ap, ap₂, ◌∙◌}
use mathlib.Core.Bool.{Bool, true, false, cond, not, ◌&&◌, ◌||◌}
use mathlib.Core.List.{List, [], ◌∷◌}
use Prim.Native.Nat.{ℕ, ◌≤◌, ◌<◌}
use native.Mathlib.Nat.{le_refl}
use native.Mathlib.Omega.{arith}
use lib.Dec.{eqb, leb, ltb}
use borrow.Author.Tests.{le-ltb, lt-leb, eq-eqb, leb-false, not-false}
use Rattle.basics.proofs.Tests.{not_both}
use Rattle.basics.proofs.sets.Laws.{fits_members}
use Rattle.message.specs.Modes.{is_multi_paxos, is_swift_paxos}
use Rattle.message.specs.Rounds.{before, round_of}
use Rattle.message.proofs.Order.{optional_rounds_ordered}
use Rattle.message.specs.declared.ConsensusMsg.TheVariants.{Accept}
use Rattle.message.specs.declared.PaxosRound.{PaxosRound}
use Rattle.message.specs.declared.PFMode.{PFMode}
use Rattle.message.specs.declared.PFMode.TheVariants.{Paxos, MultiPaxos, MultiPaxos3P, EPaxos, Pando, SwiftPaxos}
use Rattle.settings.specs.Questions.{is_live_replica}
use Rattle.settings.specs.Settings.{within_limits}
use Rattle.settings.specs.declared.Settings.{Settings}
use Rattle.settings.proofs.Limits.{within_counts, within_members}
use Rattle.fast_state.specs.Adopt.{lowest_best}
use Rattle.calls.specs.declared.delivery.Delivery.{Delivery}
use Rattle.calls.specs.declared.Call.TheVariants.{Receive}
use Rattle.consensus.specs.FirstCause.{any_above, any_from, numbers_too_large, given_number, appended, all_processes, all_numbers, given_and_different, is_ignored, source_not_live, leader_delegate, facts_of, handling_causes, all_causes}
use Rattle.consensus.specs.Panics.{Facts, fits_held, oneself_leads, accept_panics}
use Rattle.consensus.specs.Rows.{Row, then, first_of}
use Rattle.consensus.specs.declared.Shard.{Shard}
use Rattle.consensus.specs.declared.State.{State}
use Rattle.group.specs.Claim.{member_settings}
use Rattle.leader_commits.specs.Answers.{requesters_in, host_causes}

-- ---- numbers of a list

above_joined : (limit : ℕ) (ms ns : List ℕ) → any_above limit (appended ms ns) ≡ (any_above limit ms || any_above limit ns)
unfolding any_above appended
above_joined limit [] ns = refl
above_joined limit (m ∷ ms) ns = ap (λ (b : Bool). ltb limit m || b) (above_joined limit ms ns) ∙ shift (ltb limit m) (any_above limit ms) (any_above limit ns)
  where
    shift : (a b c : Bool) → (a || (b || c)) ≡ (a || b || c)
    shift true b c = refl
    shift false b c = refl

-- a process is a number
pub below_fits : (n : ℕ) → n ≤ 64 → (ns : List ℕ) → any_from n ns ≡ false → any_above 9223372036854775807 ns ≡ false
unfolding any_above any_from
below_fits n few [] e = refl
below_fits n few (m ∷ ms) e =
    ap₂ (λ (a b : Bool). a || b) (le-ltb 9223372036854775807 m (let l : m < n = leb-false n m (or_none (leb n m) e).0 in omega arith))
    (below_fits n few ms (or_none (leb n m) e).1)
  where
    or_none : (a : Bool) {b : Bool} → (a || b) ≡ false → (a ≡ false) × (b ≡ false)
    or_none true e = absurd (not_both refl e)
    or_none false e = (refl, e)

same_not_different : (last : Option ℕ) → given_and_different last last ≡ false
same_not_different None = refl
same_not_different (Some v) = ap not (eq-eqb v v refl)

-- ---- the panics of the Rust: none is met

no_panic : (m : PFMode) → is_multi_paxos m ≡ true → (f : Facts) (v : ℕ) → fits_held f.held f.round v ≡ true → oneself_leads f ≡ true → f.value_held ≡ true
    → first_of (accept_panics m f v) ≡ 0
unfolding first_of
no_panic Paxos e f v fits own held = absurd (not_both e refl)
no_panic MultiPaxos e f v fits own held = simp (fits, own, held)
no_panic MultiPaxos3P e f v fits own held = simp (fits, own, held)
no_panic EPaxos e f v fits own held = absurd (not_both e refl)
no_panic Pando e f v fits own held = absurd (not_both e refl)
no_panic SwiftPaxos e f v fits own held = absurd (not_both e refl)

-- ---- the rows in their order

-- where the others fail, three are left
three_left : (spent large process ahead differs waits missing : Bool) (rest : ℕ) (large' process' : Bool) → spent ≡ false → large ≡ large' → process ≡ process'
    → ahead ≡ false → differs ≡ false
    → waits ≡ missing → (missing ≡ false → rest ≡ 0)
    → cond spent 2 (cond large 2 (cond process 3 (cond ahead 5 (cond differs 4 (cond waits 6 rest))))) ≡ cond large' 2 (cond process' 3 (cond missing 6 0))
three_left spent large process ahead differs waits true rest large' process' a b c d e f g = simp (a, b, c, d, e, f)
three_left spent large process ahead differs waits false rest large' process' a b c d e f g = simp (a, b, c, d, e, f, g refl)

module _ (s : Settings) (multi : is_multi_paxos s.mode ≡ true) (limits : within_limits (member_settings s s.first_leader) ≡ true) (live_leader : is_live_replica s s.first_leader ≡ true)
    (state : State) (d : Delivery) (v : ℕ) where
  abbrev l : ℕ
  l = s.first_leader

  abbrev n : ℕ
  n = state.rounds.core.slot

  abbrev round : PaxosRound
  round = round_of 0 s.first_leader

  -- the leader's shard, and the answer
  abbrev pub leader_shard : Shard
  leader_shard = record { made = Ok tt; settings = member_settings s s.first_leader; state = state }

  abbrev pub the_answer : Delivery
  the_answer =
      record {
        message = record { msg = Accept state.rounds.core.slot (round_of 0 s.first_leader) v; src = d.message.src; last_v = d.message.last_v };
        said = d.said;
        held_requester = d.held_requester;
      }

  pub only_host_causes : is_live_replica s d.message.src ≡ true → state.rounds.core.slot < 9223372036854775807 → v ≤ 9223372036854775807
      → d.message.last_v ≡ state.rounds.core.last_v → any_above 9223372036854775807 (given_number d.message.last_v) ≡ false
      → state.rounds.core.paxos.round ≡ Some (round_of 0 s.first_leader)
      → fits_held state.rounds.core.paxos.max_rv (round_of 0 s.first_leader) v ≡ true
      → first_of (all_causes lowest_best leader_shard (Receive the_answer)) ≡ first_of (host_causes s d)
  unfolding first_of then any_above any_from appended
  only_host_causes live_source room fits same_last last_Fits in_round_lem held =
      three_left (leb 9223372036854775807 n) _ _ (ltb n n) _ _ (not d.said.value_held) _ (any_above 9223372036854775807 (requesters_in d))
      (any_from s.process_count (requesters_in d))
      (lt-leb 9223372036854775807 n room) large process (le-ltb n n (le_refl n)) differs waits rest
    where
      few : s.process_count ≤ 64
      few = (within_counts (member_settings s l) limits).most_processes

      leader_below : l < s.process_count
      leader_below = (within_members (member_settings s l) limits).leader_below

      source_below : d.message.src < s.process_count
      source_below =
          fits_members s.alive_replicas s.process_count (within_members (member_settings s l) limits).live_fit d.message.src live_source

      large : numbers_too_large (n ∷ []) (all_numbers the_answer) ≡ any_above 9223372036854775807 (requesters_in d)
      large =
          let leader_small : l ≤ 9223372036854775807 = let few_processes = few in let below = leader_below in omega arith in
          let source_small : d.message.src ≤ 9223372036854775807 = let few_processes = few in let below = source_below in omega arith in
          let after : any_above 9223372036854775807 (0 ∷ v ∷ given_number d.message.last_v) ≡ false =
          simp (le-ltb 9223372036854775807 0 (omega arith), le-ltb 9223372036854775807 v fits, last_Fits) in
          let first : numbers_too_large (n ∷ []) (all_numbers the_answer) ≡ any_above 9223372036854775807
          (appended (requesters_in d) (0 ∷ v ∷ given_number d.message.last_v)) =
          simp (
            le-ltb 9223372036854775806 n (omega (arith, room)),
            le-ltb 9223372036854775807
                d.message.src source_small,
            le-ltb 9223372036854775807 l leader_small,
          ) in
          first ∙ above_joined 9223372036854775807 (requesters_in d) (0 ∷ v ∷ given_number d.message.last_v)
          ∙ ap (λ (b : Bool). any_above 9223372036854775807 (requesters_in d) || b) after ∙ or-false (any_above 9223372036854775807 (requesters_in d))

      process : any_from s.process_count (all_processes the_answer) ≡ any_from s.process_count (requesters_in d)
      process = simp (lt-leb s.process_count d.message.src source_below, lt-leb s.process_count l leader_below)

      differs : (eqb n n && given_and_different d.message.last_v state.rounds.core.last_v) ≡ false
      differs =
          ap (λ (b : Bool). b && given_and_different d.message.last_v state.rounds.core.last_v) (eq-eqb n n refl)
          ∙ ap (given_and_different d.message.last_v) (sym same_last) ∙ same_not_different d.message.last_v

      waits : (eqb n n && eqb l l && not d.said.value_held) ≡ not d.said.value_held
      waits = simp (eq-eqb n n refl, eq-eqb l l refl)

      not_ignored : is_ignored (member_settings s l) state.rounds n round ≡ false
      not_ignored =
          let later : before (Some round) state.rounds.core.paxos.round ≡ false = ap
          (before (Some round)) in_round_lem ∙ optional_rounds_ordered.irreflexive (Some round) in
          simp (live_leader, le-ltb n n (le_refl n), later)

      from_live_lem : source_not_live (member_settings s l) d.message.src ≡ false
      from_live_lem = ap (λ (b : Bool). not b && not (is_swift_paxos s.mode)) live_source

      rest : not d.said.value_held ≡ false → first_of (handling_causes lowest_best (member_settings s l) state.rounds the_answer (Accept n round v)) ≡ 0
      rest holds =
          ap (λ (b : Bool). first_of (cond b [] (record { number = 7; cause = source_not_live (member_settings s l) d.message.src } ∷ panics))) not_ignored
          ∙ ap (λ (b : Bool). cond b 7 (first_of panics)) from_live_lem
          ∙ no_panic s.mode multi facts v held (eq-eqb l l refl) (not-false d.said.value_held holds)
        where
          facts : Facts
          facts = facts_of (member_settings s l) state.rounds the_answer round (leader_delegate (member_settings s l) s.mode l)

          panics : List Row
          panics = accept_panics s.mode facts v

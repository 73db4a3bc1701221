-- A run of three members in Paxos mode, computed: it is legal, all three commit value 10 in slot 0, and their hosts take it as an assignment of
-- cell 7. So every hypothesis of the law holds somewhere, and the registers are not empty.
-- Assumes nothing.
use Rattle.std.specs.Prelude.{None, Ok}
use mathlib.Core.Path.{◌≡◌, refl, sym, ap, ◌∙◌}
use mathlib.Core.List.{List, [], ◌∷◌}
use mathlib.Core.Logic.{inl, inr}
use Prim.Native.Nat.{ℕ, ◌-◌}
use native.Mathlib.Omega.{arith}
use lib.Dec.{lit<}
use Rattle.message.specs.Rounds.{round_of}
use Rattle.message.specs.declared.ConsensusMsg.TheVariants.{Prepare, Accept, Commit}
use Rattle.message.specs.declared.PFMode.TheVariants.{Paxos}
use Rattle.message.specs.declared.RoundV.TheVariants.{PaxosV}
use Rattle.agreement.proofs.Tests.{neqb→ne}
use Rattle.register.specs.Taken.{is, above, among, named_cells, count_in, entry_number_given, is_taken_given, latest, live_cell_count}
use Rattle.register.specs.declared.Change.TheVariants.{Assign}
use Rattle.group_register.specs.Settings.{settings_from}
use Rattle.group.specs.Claim.{MemberCall, Entry, ours, entries, Legal, slot_at}
use Rattle.group.proofs.Computed.{computed}
use Rattle.group.proofs.Example.{three, proposal_call, hears_message, first}
use Rattle.group_settings_runs.specs.registers.Members.{CellChange, entry_for_commit, entries_for, register_of_member}
use Rattle.group_settings_runs.proofs.registers.Agreeing.{whole, members_hold_equal_registers, members_hold_equal_registers_from}
use Rattle.windows.specs.Windows.{all_fit, check_windows}
use Rattle.group_settings.specs.declared.GroupSettings.{GroupSettings}
use Rattle.group_settings_runs.specs.Groups.{group_entries}
use Rattle.group_settings_runs.proofs.EngineRuns.{engine_legal, engine_entries}

-- member 0 proposes 10, members 0 and 1 prepare and accept it, and all commit it
abbrev pub example_calls : List MemberCall
example_calls =
    proposal_call 0 10
    ∷ hears_message 1 0 None (Prepare 0 (round_of 0 0) (PaxosV None 10))
    ∷ hears_message 0 1 None (Prepare 0 (round_of 0 0) (PaxosV None 10))
    ∷ hears_message 1 0 None (Accept 0 (round_of 0 0) 10)
    ∷ hears_message 0 1 None (Accept 0 (round_of 0 0) 10)
    ∷ hears_message 1 0 None (Commit 0 10)
    ∷ hears_message 2 0 None (Commit 0 10)
    ∷ []

-- every value is an assignment of the cell three below it
abbrev pub says : ℕ → CellChange
says v = record { cell = v - 3; change = Assign (record { carrier = 630000; width = 20000 }) }

abbrev pub run : List Entry
run = entries (three Paxos) example_calls

pub calls_legal : Legal (three Paxos) example_calls
unfolding computed
calls_legal =
    first (lit< tt) tt
    (first (lit< tt) (_, _, inl refl, refl, inl refl, refl, neqb→ne 0 1 tt)
    (first (lit< tt) (_, _, inl refl, refl, inl refl, refl, refl)
    (first (lit< tt) (_, _, inl refl, refl, inl refl, refl, neqb→ne 0 1 tt)
    (first (lit< tt) (_, _, inl refl, refl, inl refl, refl, refl)
    (first (lit< tt) (_, _, inl refl, refl, inl refl, refl, neqb→ne 0 1 tt)
    (first (lit< tt) (_, _, inr (inl refl), refl, inl refl, refl, neqb→ne 0 2 tt) tt))))))

-- each member is at slot 1, and its one entry assigns cell 7
pub all_assign_cell_7 : (slot_at 0 run ≡ 1) × (slot_at 2 run ≡ 1) × (entries_for says 0 run ≡ entry_for_commit says 0 10 ∷ [])
unfolding entries_for computed
all_assign_cell_7 = (refl, refl, refl)

pub cell_7_is_assigned : (latest (entry_for_commit says 0 10 ∷ []) 7 ≡ is (says 10).change) × (live_cell_count (entry_for_commit says 0 10 ∷ []) ≡ 1)
unfolding latest is_taken_given entry_number_given above count_in named_cells among
cell_7_is_assigned = (refl, refl)

pub members_0_and_2 : register_of_member (settings_from 5) says 0 run ≡ register_of_member (settings_from 5) says 2 run
members_0_and_2 =
    members_hold_equal_registers (three Paxos) tt example_calls calls_legal (settings_from 5) says 0 2 run run (whole run) (whole run)
    (all_assign_cell_7.0 ∙ sym all_assign_cell_7.1)

-- the same calls on a group that is begun from group settings, whose slot of whole MHz is 5, and which has no windows
abbrev group : GroupSettings
group = record { settings = three Paxos; whole_mhz_from = 5; windows = record { places = []; count = 0 } }

no_windows : check_windows group.windows ≡ Ok tt
unfolding check_windows all_fit
no_windows = refl

abbrev run_from : List Entry
run_from = group_entries ours group example_calls

pub members_0_and_2_from : register_of_member (settings_from 5) says 0 run_from ≡ register_of_member (settings_from 5) says 2 run_from
members_0_and_2_from =
    let same = engine_entries group (omega arith) no_windows example_calls ours in
    members_hold_equal_registers_from group tt example_calls ((engine_legal group (omega arith) no_windows example_calls ours).1 calls_legal) (settings_from 5) says 0 2 run_from run_from
    (whole run_from) (whole run_from) (ap (slot_at 0) same ∙ all_assign_cell_7.0 ∙ sym (ap (slot_at 2) same ∙ all_assign_cell_7.1))

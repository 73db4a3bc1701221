-- What the hosts of a group are told, call by call, as they read it by the header; and which lists of calls are legal by what they were told.
-- Assumes nothing.
use Rattle.std.specs.Prelude.{List, [], ◌≡◌, ℕ, ◌<◌}
use Rattle.group.specs.Claim.{Entry, entry_made, entries_made, LegalMade, Claim, NotSwift}
use Rattle.group_settings.specs.declared.GroupSettings.{GroupSettings}
use Rattle.group_settings_runs.specs.Groups.{begun_from}
use Rattle.direct_calls.specs.Runs.{Memory, shard_of, HostCall, host_made}

-- a call that was made, with what its host is told
abbrev pub told_entry : (ℕ → Memory) → HostCall → Entry
told_entry memories c = entry_made host_made memories c

-- those of a list of calls, each made on the memory that its member's last call left
abbrev pub told_from : (ℕ → Memory) → List Entry → List HostCall → List Entry
told_from memories past cs = entries_made (λ place. host_made) memories past cs

-- every call is of a member of the group, and every message was sent to the member by what an earlier call's host was told
abbrev pub HostLegal : ℕ → (ℕ → Memory) → List Entry → List HostCall → Type 0
HostLegal n memories past cs = LegalMade n (λ place. host_made) memories past cs

-- the memory of each member of the group stands for its shard as it begins
abbrev pub MemoriesBegin : GroupSettings → (ℕ → Memory) → Type 0
MemoriesBegin g memories = (j : ℕ) → j < g.settings.process_count → shard_of (memories j) ≡ begun_from g j

-- Demand 3 of hosts that lend arrays: of what they are told the claim holds. Nothing in it is of the engine but the call itself: the commits are those that
-- the hosts read, and the messages those that they hand on.
abbrev pub HostAgreement : Type 0
HostAgreement =
    (g : GroupSettings) → NotSwift g.settings.mode → (memories : ℕ → Memory) → MemoriesBegin g memories → (cs : List HostCall)
    → HostLegal g.settings.process_count memories [] cs → Claim (told_from memories [] cs)

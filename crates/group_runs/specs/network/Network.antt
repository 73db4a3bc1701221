-- The messages under way (document 01, "Group runs (demand 3)"): each with the member that it goes to, in the first count places.
-- Assumes nothing.
use Rattle.std.specs.Prelude.{cond, List, ℕ, zero, suc, ◌+◌, ◌-◌, eqb, ltb, get_or, set, replicate, None}
use Rattle.message.specs.declared.ConsensusMessage.{ConsensusMessage}
use Rattle.message.specs.declared.ConsensusMsg.TheVariants.{ForwardRequest}
use Rattle.steps.specs.declared.Destination.{Destination}
use Rattle.steps.specs.declared.Destination.TheVariants.{One, All}
use Rattle.group_runs.specs.declared.network.Network.{Network}
use Rattle.group_runs.specs.declared.network.Parcel.{Parcel}

abbrev pub parcel_of : ℕ → ConsensusMessage → Parcel
parcel_of p m = record { member = p; message = m }

abbrev pub no_parcel : Parcel
no_parcel = parcel_of 0 (record { msg = ForwardRequest 0; src = 0; last_v = None })

abbrev pub parcel_at : List Parcel → ℕ → Parcel
parcel_at ps i = get_or ps i no_parcel

abbrev pub new_network : Network
new_network = record { parcels = replicate 128 no_parcel; count = 0 }

-- one more message under way; where there is no room it is lost
unfoldable pub posted : Network → ℕ → ConsensusMessage → Network
posted w p m = cond (ltb w.count 128) (record { parcels = set w.parcels w.count (parcel_of p m); count = w.count + 1 }) w

-- the message at place i is no more under way, and the last one takes its place
unfoldable pub without_message : Network → ℕ → Network
without_message w i =
    cond (ltb 128 w.count) w
    (cond (ltb i w.count) (record { parcels = set w.parcels i (parcel_at w.parcels (w.count - 1)); count = w.count - 1 }) w)

-- to one member, where that is not the source
unfoldable pub posted_to_other : Network → ℕ → ConsensusMessage → Network
posted_to_other w p m = cond (eqb p m.src) w (posted w p m)

-- to every other of n members
unfoldable pub posted_to_all : Network → ℕ → ConsensusMessage → Network
posted_to_all w zero m = w
posted_to_all w (suc p) m = posted_to_other (posted_to_all w p m) p m

-- where a message goes that is sent in a group of n members
abbrev pub posted_to : Network → ℕ → Destination → ConsensusMessage → Network
posted_to w n (One p) m = posted w p m
posted_to w n (All first) m = posted_to_all w n m

-- the message at place i
unfoldable pub under : Network → ℕ → Parcel
under w i = cond (ltb i 128) (parcel_at w.parcels i) no_parcel

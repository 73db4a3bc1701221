-- The engine of which the runs of proofs/ComputedRuns.antt are computed, and the laws of proofs/Laws.antt stated.
-- Assumes nothing.
use Rattle.consensus.specs.Call.{call_of}
use Rattle.wrong_engines.specs.Laws.{AnyEngine}

abbrev pub engine : AnyEngine
engine shard c = call_of shard c

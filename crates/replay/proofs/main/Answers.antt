-- The room is as long as it is declared, which is not computed.
use Rattle.std.proofs.Common.{ℕ, sym}
use lib.ListN.{length-replicate}
use Rattle.replay.proofs.main.Goals as goal

pub slice_bounds-replay_input-end : goal.slice_bounds-replay_input-end
slice_bounds-replay_input-end c = sym (length-replicate {0} {A = ℕ} 524288 0)

-- What comes in, what it is as text, what is lent and what is written are as long as their arrays.
use mathlib.Core.Path.{sym}
use Prim.Native.Nat.{ℕ}
use lib.ListN.{length-replicate}
use Rattle.calls.proofs.main.Goals as goal

pub slice_bounds-buffers-end : goal.slice_bounds-buffers-end
slice_bounds-buffers-end c = sym (length-replicate {A = ℕ} 160000 0)

pub slice_bounds-buffers-end-2 : goal.slice_bounds-buffers-end-2
slice_bounds-buffers-end-2 c = sym (length-replicate {A = ℕ} 40000 0)

pub slice_bounds-buffers-end-3 : goal.slice_bounds-buffers-end-3
slice_bounds-buffers-end-3 c = sym (length-replicate {A = ℕ} 120000 0)

pub slice_bounds-buffers-end-4 : goal.slice_bounds-buffers-end-4
slice_bounds-buffers-end-4 c = sym (length-replicate {A = ℕ} 600016 0)

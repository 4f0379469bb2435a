-- What is written from the start of a list. Assumes nothing.
use mathlib.Core.Path.{◌≡◌}
use mathlib.Core.List.{List, ◌++◌}
use Prim.Native.Nat.{◌≤◌}
use native.Mathlib.Nat.{zero-add}
use lib.ListN.{length, take, drop}
use lib.Seq.{sets, sets-eq, take-append_seam, drop-append_seam}

module _ {A : Type 0} (list es : List A) (h : length es ≤ length list) where
  -- it stands there, and the rest is unchanged
  pub written : sets list 0 es ≡ es ++ drop (length es) list
  written = rw (sets-eq es list 0 (rw zero-add h), zero-add (length es))

  pub take_written : take (length es) (sets list 0 es) ≡ es
  take_written = rw written (take-append_seam es (drop (length es) list))

  pub rest_unwritten : drop (length es) (sets list 0 es) ≡ drop (length es) list
  rest_unwritten = rw written (drop-append_seam es (drop (length es) list))

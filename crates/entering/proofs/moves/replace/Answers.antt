-- `moves::replace` meets its contract: what its moves come to is shown in `Replace`.
use mathlib.Core.Path.{ap₂, ◌∙◌}
use Prim.Native.Nat.{◌+◌, ◌-◌}
use native.Mathlib.Omega.{arith}
use borrow.Rule.Slice.PartMut.{put_mid}
use lib.ListN.{set, length-set}
use Rattle.entering.proofs.Replace.{cleared, replace_fits}
use Rattle.entering.proofs.moves.replace.Goals as goal

pub returns-clause-rows_after : goal.returns-clause-rows_after
returns-clause-rows_after c =
    let end = c.args.lo + 1 + (c.args.n - c.args.hi) in
    let freed = c.max-freed.result in
    ap₂ (λ xs ys. put_mid end (freed - end) (set xs c.args.lo c.args.w) ys) c.copy_within.ensures.after
    (cleared _ _ end freed _ (c.fill.ensures.after (λ y e. e)) c.unused_word.ensures (simp length-set (omega (arith, c.copy_within.ensures.len))))
    ∙ replace_fits c.args.rows.now c.args.n c.requires.lo_le_hi.2 c.requires.rows_value c.args.lo c.args.hi c.args.w c.requires.lo_le_hi.0 c.requires.lo_le_hi.1
    c.requires.lo_le_hi.3 freed (omega arith) (omega arith) (omega arith)

-- `judge_remove` meets its contract: behind the checks but 21 the contact's animals and tick are those of the table.
use Rattle.std.specs.Prelude.{Option, None}
use mathlib.Core.Path.{◌≡◌, sym, ap, ◌∙◌}
use mathlib.Core.List.{List}
use Prim.Native.Nat.{ℕ}
use native.Mathlib.Omega.{arith}
use Rattle.journeys.specs.declared.Contact.{Contact}
use Rattle.rules.specs.declared.Refusal.{Refusal}
use Rattle.rules.specs.Layout.{animals}
use Rattle.rules.specs.Checks.{ensure_table}
use Rattle.rules.specs.Adding.{ensure_pair, ensure_tick}
use Rattle.rules.specs.Removing.{ensure_same_length, remove_refusal}
use Rattle.rules.proofs.Sound.{table-sizes}
use Rattle.rules.proofs.Removing.{Removable, removal-ahead, removal-group}
use Rattle.checks.specs.Verdicts.{verdict_of}
use Rattle.checks.proofs.Judged.{refused_with, judge_refused, judge_passed, judge_gave}
use Rattle.call_checks.proofs.judge_remove.Goals as goal

-- The checks of a removal but 21.
abbrev removable : List ℕ → List ℕ → Contact → Option Refusal
removable T W k = ensure_table T (ensure_same_length T W (ensure_pair T k.from k.to (ensure_tick T k.tick None)))

pub returns-in_err-whole : goal.returns-in_err-whole
unfolding remove_refusal verdict_of
returns-in_err-whole c =
    refused_with _ c.from_residual.ensures.1
    ∙ ap verdict_of (sym ((removal-group c.args.table.now c.args.work.now c.args.contact).refuses _ (judge_refused (removable c.args.table.now c.args.work.now c.args.contact) c.args.table.now c.judge_removable.ensures c.in_err-whole.was) _))

pub holds-requires : goal.holds-requires
holds-requires c =
    let passed : removable c.args.table.now c.args.work.now c.args.contact ≡ None = judge_passed (removable c.args.table.now c.args.work.now c.args.contact) c.args.table.now c.judge_removable.ensures c.in_ok-whole.was in
    let it : Removable c.args.table.now c.args.work.now c.args.contact = (((removal-ahead c.args.table.now c.args.work.now c.args.contact).behind None tt None).0 passed).0 in
    let e : animals c.in_ok-whole.whole ≡ animals c.args.table.now = ap animals (judge_gave (removable c.args.table.now c.args.work.now c.args.contact) c.args.table.now c.judge_removable.ensures c.in_ok-whole.was) in
    (omega (arith, it.legal.from_below, e), omega (arith, it.legal.to_below, e), omega (arith, it.legal.to_last, (table-sizes c.args.table.now).τ-high))

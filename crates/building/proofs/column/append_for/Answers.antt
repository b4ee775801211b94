-- `column::append_for` meets its contract: each return is a case of the rule.
use Prim.Native.Nat.{ℕ, ◌+◌, ◌*◌, ◌≤◌, ◌<◌}
use mathlib.Core.Path.{◌≡◌, sym, ◌∙◌}
use mathlib.Core.List.{List}
use lib.ListN.{length}
use native.Mathlib.Omega.{arith}
use Rattle.journeys.specs.declared.Contact.{Contact}
use Rattle.rules.specs.Limits.{max_cell_words}
use Rattle.grid.proofs.Places.{cell-lent}
use Rattle.building.specs.Stage.{PartlyAdded, InUseCell}
use Rattle.building.proofs.AnimalByAnimal.{source_cell, goal_cell, goal_inside, for_goal, for_no_departure, can_put, for_given_back}
use Rattle.building.proofs.column.append_for.Goals as goal

module _ {n s δ x : ℕ} {k : Contact} {body : List ℕ} (g : PartlyAdded n s δ k x body) (h : x < n) where
  -- The cell from x to the goal, in which the interval is put.
  written : InUseCell n s body x k.to
  written = goal_cell _ h g.can_append g.marked

  -- It ends inside the words.
  inside : {at : ℕ} → at ≡ (x * n + k.to) * s → (at + s ≤ length body) × (s ≤ max_cell_words)
  inside e = (omega (arith, e, goal_inside _ h g.can_append g.marked), written.grid.short)

pub returns-then-x-v : goal.returns-then-x-v
returns-then-x-v c = λ T L r m. for_goal _ c.requires.x_lt_n r m c.if-x-v.true

pub departure-requires : goal.departure-requires
departure-requires c = let g = c.requires.partly_added in source_cell _ c.requires.x_lt_n g.can_append g.marked

pub returns-in_default : goal.returns-in_default
returns-in_default c = λ T L r m. for_no_departure _ c.requires.x_lt_n r m c.if-x-v.false (sym c.departure.ensures ∙ c.in_default.is)

pub slice_bounds-append-end : goal.slice_bounds-append-end
slice_bounds-append-end c = let p = inside c.requires.partly_added c.requires.x_lt_n c.start-at.ensures in omega arith

pub append-requires : goal.append-requires
append-requires c =
    let g = c.requires.partly_added in
    can_put _ c.requires.x_lt_n g.can_append g.marked c.if-x-v.false _ (sym c.departure.ensures ∙ c.in-Some.is) (cell-lent _ _ _ _ _ _ c.start-at.ensures)

pub returns : goal.returns
returns c =
    λ T L r m.
    for_given_back _ c.requires.x_lt_n r m c.if-x-v.false _ (sym c.departure.ensures ∙ c.in-Some.is) _ c.start-at.ensures _ _
    (cell-lent _ _ _ _ _ _ c.start-at.ensures) c.append.ensures

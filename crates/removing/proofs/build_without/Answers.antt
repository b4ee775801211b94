-- `build_without` meets its contract: the second table is opened, the contacts that remain are marked in it, and it is built over them.
use mathlib.Core.Path.{◌≡◌}
use mathlib.Core.List.{List}
use Prim.Native.Nat.{ℕ}
use native.Mathlib.Omega.{arith}
use lib.ListN.{replicate}
use Rattle.rules.specs.Limits.{max_ticks}
use Rattle.rules.specs.Layout.{table_words, animals, ticks, carry}
use Rattle.rules.specs.Opening.{no_intervals}
use Rattle.rules.proofs.Sound.{table-sizes}
use Rattle.tables.specs.declared.Opening.{Opening}
use Rattle.building.proofs.MarkedTables.{given_back}
use Rattle.removing.proofs.Removed.{SecondOpened, opened-long, opened-marks, left-marked, left-built}
use Rattle.removing.proofs.build_without.Goals as goal

-- The second table is opened by the opening that was read off the first.
second : (T : List ℕ) {heads W : List ℕ} {o : Opening} → (o.animals ≡ animals T) × (o.ticks ≡ ticks T) × (o.carry ≡ carry T) → heads ≡ replicate max_ticks 0
    → W ≡ table_words o.animals o.ticks o.carry no_intervals → SecondOpened T heads W
second T e h w = record { no-marks = h; words = rw (e.0, e.1, e.2) at w }

pub write_opened-requires : goal.write_opened-requires
write_opened-requires c =
    let e = c.opening.ensures in
    record { sizes = rw (e.0, e.1, e.2) (table-sizes c.args.table.now); table_len = rw (e.0, e.1) c.requires }

pub slice_bounds-mark_cells-count : goal.slice_bounds-mark_cells-count
slice_bounds-mark_cells-count c = omega (arith, opened-long (second c.args.table.now c.opening.ensures c.no_heads-heads.ensures c.write_opened.ensures))

pub slice_bounds-mark_cells-start : goal.slice_bounds-mark_cells-start
slice_bounds-mark_cells-start c = omega (arith, opened-long (second c.args.table.now c.opening.ensures c.no_heads-heads.ensures c.write_opened.ensures))

pub mark_cells-requires : goal.mark_cells-requires
mark_cells-requires c = opened-marks (second c.args.table.now c.opening.ensures c.no_heads-heads.ensures c.write_opened.ensures)

pub build-requires : goal.build-requires
build-requires c =
    let s = second c.args.table.now c.opening.ensures c.no_heads-heads.ensures c.write_opened.ensures in
    -- The words marked stand behind its opening word.
    let behind = given_back c.write_opened.new.table c.mark_cells.new.body (opened-long s) c.mark_cells.auto.body in
    (_, left-marked s _ c.mark_cells.ensures.marked behind)

pub returns : goal.returns
returns c =
    let s = second c.args.table.now c.opening.ensures c.no_heads-heads.ensures c.write_opened.ensures in
    let behind = given_back c.write_opened.new.table c.mark_cells.new.body (opened-long s) c.mark_cells.auto.body in
    left-built s _ c.mark_cells.ensures.marked behind c.mark_cells.ensures.valid c.build.ensures

-- `load` meets its contract: the table is opened, the contacts of the log are marked in it, and it is built over them.
use mathlib.Core.Path.{refl}
use native.Mathlib.Omega.{arith}
use Rattle.reading.proofs.Loaded.{log-long, first-sizes, first-length, first-words, log-opened, log-legal, log-few, log-counted, log-loaded}
use Rattle.reading.proofs.load.Goals as goal

pub bounds-log-0 : goal.bounds-log-0
bounds-log-0 c = omega (arith, log-long c.args.log.now c.args.table.now c.requires)

pub write_opened-requires : goal.write_opened-requires
write_opened-requires c =
    let L = c.args.log.now in
    let T = c.args.table.now in
    let w = c.of_word-o.ensures in
    record { sizes = first-sizes L T c.requires _ _ _ w.0 w.1 w.2; table_len = first-length L T c.requires _ _ _ w.0 w.1 w.2 }

pub overflow_sub-end : goal.overflow_sub-end
overflow_sub-end c = omega (arith, log-long c.args.log.now c.args.table.now c.requires)

pub slice_bounds-mark-count : goal.slice_bounds-mark-count
slice_bounds-mark-count c = omega (arith, log-long c.args.log.now c.args.table.now c.requires)

pub slice_bounds-mark-start : goal.slice_bounds-mark-start
slice_bounds-mark-start c = omega (arith, log-long c.args.log.now c.args.table.now c.requires)

pub slice_bounds-mark-end : goal.slice_bounds-mark-end
slice_bounds-mark-end c = omega (arith, log-long c.args.log.now c.args.table.now c.requires)

pub mark-different-requires : goal.mark-different-requires
mark-different-requires c =
    let L = c.args.log.now in
    let T = c.args.table.now in
    let w = c.of_word-o.ensures in
    -- The words of the table just opened.
    let o = first-words L T c.requires _ _ _ w.0 w.1 w.2 _ c.write_opened.ensures in
    record {
      marked_table = log-opened L T c.requires _ refl _ o _ c.no_heads-heads.ensures;
      by_index = log-legal L T c.requires _ refl _ o;
      words_len_bound = log-few L T c.requires _ refl;
    }

pub build-requires : goal.build-requires
build-requires c = (_, c.mark-different.ensures.marked_table_2)

pub returns : goal.returns
returns c =
    let L = c.args.log.now in
    let T = c.args.table.now in
    let w = c.of_word-o.ensures in
    let o = first-words L T c.requires _ _ _ w.0 w.1 w.2 _ c.write_opened.ensures in
    let s = c.mark-different.ensures in
    record {
      value = log-counted L T c.requires _ refl _ s.value;
      table_after = log-loaded L T c.requires _ refl _ o c.mark-different.new.table _ s.table_unchanged (c.build.ensures _ s.marked_table_2);
    }

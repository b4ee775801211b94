-- `put_sheet` meets its contract: each return is a case of the text.
use mathlib.Core.Path.{◌≡◌, refl, sym, ap, ◌∙◌}
use mathlib.Core.List.{List}
use Prim.Native.Nat.{ℕ, ◌/◌, ◌%◌, ◌≤◌}
use native.Mathlib.Omega.{arith}
use lib.ListN.{length, take}
use Rattle.rules.specs.Sheet.{most_bytes, words_of, sheet_text}
use Rattle.table_text.specs.Lines.{overwrite_front}
use Rattle.sheet_text.proofs.Printed.{put_as, room_as, sheet_large, sheet_broken, sheet_words, words_text, words-lent}
use Rattle.sheet_text.proofs.put_sheet.Goals as goal

-- What is printed for whole words, which were written over the words l.
text : (B l : List ℕ) {out : List ℕ} → length B ≤ most_bytes → length B % 4 ≡ 0 → out ≡ overwrite_front (words_of B) l → sheet_text B ≡ words_text (take (length B / 4) out)
text B l h d e = sheet_words B h d ∙ ap words_text (sym (words-lent B l _ _ d refl e))

pub put_bytes-requires : goal.put_bytes-requires
put_bytes-requires c = room_as _ _ c.args.out.now (sheet_large c.args.bytes.now (omega arith)) c.requires

pub returns-then-bytes-gt-MOST_BYTES : goal.returns-then-bytes-gt-MOST_BYTES
returns-then-bytes-gt-MOST_BYTES c =
    let r = put_as _ _ _ _ _ (sheet_large c.args.bytes.now (omega arith)) c.put_bytes.ensures.value c.put_bytes.ensures.out_after in
    record { value = r.0; out_after = r.1 }

pub put_bytes-requires-then-bytes-ne0 : goal.put_bytes-requires-then-bytes-ne0
put_bytes-requires-then-bytes-ne0 c =
    room_as _ _ c.args.out.now (sheet_broken c.args.bytes.now (omega arith) c.if-bytes-ne0.true) c.requires

pub returns-then-bytes-ne0 : goal.returns-then-bytes-ne0
returns-then-bytes-ne0 c =
    let p = c.put_bytes-then-bytes-ne0.ensures in
    let r = put_as _ _ _ _ _ (sheet_broken c.args.bytes.now (omega arith) c.if-bytes-ne0.true) p.value p.out_after in
    record { value = r.0; out_after = r.1 }

pub put_log-requires : goal.put_log-requires
put_log-requires c =
    room_as _ _ c.args.out.now (text c.args.bytes.now _ (omega arith) c.if-bytes-ne0.false c.put_words.ensures) c.requires

pub returns : goal.returns
returns c =
    let r = put_as _ _ _ _ _ (text c.args.bytes.now _ (omega arith) c.if-bytes-ne0.false c.put_words.ensures) c.put_log.ensures.value c.put_log.ensures.out_after in
    record { value = r.0; out_after = r.1 }

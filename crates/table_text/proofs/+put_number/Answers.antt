-- A number below ten is its digit, any other has its last digit behind those of the tenth part.
use Rattle.std.proofs.Common.{◌≡◌, refl, sym, ap, ℕ, ◌+◌, ◌/◌, ◌%◌, ◌≤◌, List, [], ◌∷◌, length, length-append, arith}
use Rattle.rules.specs.Sheet.{decimal}
use Rattle.table_text.specs.Lines.{overwrite_front}
use Rattle.table_text.proofs.Digits.{one-digit, last-digit}
use Rattle.table_text.proofs.Writing.{Writing, start, last-place, last_byte, first}
use Rattle.table_text.proofs.+put_number.Goals as goal

-- The digits but the last are written.
wrote : (k : ℕ) (out new : List ℕ) (r : ℕ) → 10 ≤ k → length (decimal k) ≤ length out → r ≡ length (decimal (k / 10)) → new ≡ overwrite_front (decimal (k / 10)) out
    → Writing (decimal k) out new r ((48 + k % 10) ∷ [])
wrote k out new r h room e f = first _ _ _ _ (sym (last-digit k h)) e f room

pub bounds-out-0 : goal.bounds-out-0
bounds-out-0 t c = omega (arith, ap length (one-digit c.args.k c.if-k-lt10.true))

pub returns-then-k-lt10-clause-value : goal.returns-then-k-lt10-clause-value
returns-then-k-lt10-clause-value t c = omega (arith, ap length (one-digit c.args.k c.if-k-lt10.true))

pub returns-then-k-lt10-clause-out_after : goal.returns-then-k-lt10-clause-out_after
returns-then-k-lt10-clause-out_after t c =
    let k = c.args.k in
    let w = start (decimal k) c.args.out.now _ (sym (one-digit k c.if-k-lt10.true)) c.requires in
    last_byte w (48 + k) _ refl c.digit.ensures

pub put_number-end-requires : goal.put_number-end-requires
put_number-end-requires t c =
    let k = c.args.k in
    let h = c.if-k-lt10.false in
    (omega arith, omega (arith, ap length (last-digit k h), length-append (decimal (k / 10)) ((48 + k % 10) ∷ [])))

pub bounds-out-end : goal.bounds-out-end
bounds-out-end t c =
    let w = wrote c.args.k c.args.out.now _ _ c.if-k-lt10.false c.requires c.put_number-end.ensures.value c.put_number-end.ensures.out_after in
    omega (arith, w.room)

pub overflow_add-result : goal.overflow_add-result
overflow_add-result t c =
    let w = wrote c.args.k c.args.out.now _ _ c.if-k-lt10.false c.requires c.put_number-end.ensures.value c.put_number-end.ensures.out_after in
    omega (arith, w.room, w.kept)

pub returns-clause-value : goal.returns-clause-value
returns-clause-value t c =
    let w = wrote c.args.k c.args.out.now _ _ c.if-k-lt10.false c.requires c.put_number-end.ensures.value c.put_number-end.ensures.out_after in
    last-place w (48 + c.args.k % 10) refl

pub returns-clause-out_after : goal.returns-clause-out_after
returns-clause-out_after t c =
    let w = wrote c.args.k c.args.out.now _ _ c.if-k-lt10.false c.requires c.put_number-end.ensures.value c.put_number-end.ensures.out_after in
    last_byte w (48 + c.args.k % 10) _ refl c.digit-2.ensures

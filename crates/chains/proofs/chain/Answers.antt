-- `chain` meets its contract: each return is a case of the rule.
use native.Mathlib.Omega.{arith}
use Rattle.rules.proofs.Sound.{table-sizes}
use Rattle.chains.proofs.Replies.{refused_answer, refused_leaves, asked_pair, asked_room, chain_none, chain-found}
use Rattle.chains.proofs.chain.Goals as goal

pub returns-in_err-table-clause-value : goal.returns-in_err-table-clause-value
returns-in_err-table-clause-value c =
    let a = c.args in refused_answer a.table.now a.u a.v a.first a.last a.buffer.now c.judge_chain.ensures c.in_err-table.was c.from_residual.ensures.1

pub returns-in_err-table-clause-buffer_after : goal.returns-in_err-table-clause-buffer_after
returns-in_err-table-clause-buffer_after c = let a = c.args in refused_leaves a.table.now a.u a.v a.first a.last a.buffer.now c.judge_chain.ensures c.in_err-table.was

pub find-requires : goal.find-requires
find-requires c = let a = c.args in asked_pair a.table.now a.u a.v a.first a.last a.buffer.now c.judge_chain.ensures c.in_ok-table.was

pub returns-in_default-clause-value : goal.returns-in_default-clause-value
returns-in_default-clause-value c =
    let a = c.args in
    (chain_none a.table.now a.u a.v a.first a.last a.buffer.now c.judge_chain.ensures c.in_ok-table.was c.find.ensures.words_value c.in_default.is).0

pub returns-in_default-clause-buffer_after : goal.returns-in_default-clause-buffer_after
returns-in_default-clause-buffer_after c =
    let a = c.args in
    (chain_none a.table.now a.u a.v a.first a.last a.buffer.now c.judge_chain.ensures c.in_ok-table.was c.find.ensures.words_value c.in_default.is).1

pub write_front-requires : goal.write_front-requires
write_front-requires c =
    let a = c.args in
    let s = c.in-Some.ensures.count_bound in
    -- The buffer has room for the chain.
    let room = asked_room a.table.now a.u a.v a.first a.last a.buffer.now c.judge_chain.ensures c.in_ok-table.was in
    (omega (arith, room, s.below), omega (arith, (table-sizes c.in_ok-table.table).n_high, s.below, s.long))

pub returns-clause-value : goal.returns-clause-value
returns-clause-value c =
    let a = c.args in
    let s = c.in-Some.ensures.count_bound in
    (chain-found a.table.now a.u a.v a.first a.last a.buffer.now c.judge_chain.ensures c.in_ok-table.was c.find.ensures.words_value c.in-Some.is
    (omega (arith, (table-sizes c.in_ok-table.table).n_high, s.below, s.long)) _ c.write_front.ensures).0

pub returns-clause-buffer_after : goal.returns-clause-buffer_after
returns-clause-buffer_after c =
    let a = c.args in
    let s = c.in-Some.ensures.count_bound in
    (chain-found a.table.now a.u a.v a.first a.last a.buffer.now c.judge_chain.ensures c.in_ok-table.was c.find.ensures.words_value c.in-Some.is
    (omega (arith, (table-sizes c.in_ok-table.table).n_high, s.below, s.long)) _ c.write_front.ensures).1

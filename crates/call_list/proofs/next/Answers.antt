-- `call_list::next` meets its contract: the block's bytes are one call's block, and the call in place does what it says.
use Prim.Native.Nat.{◌+◌, ◌*◌, ◌≤◌}
use native.Mathlib.Omega.{arith}
use mathlib.Core.Path.{◌≡◌, sym, ap, ◌∙◌}
use borrow.Author.Rules.{rules}
use lib.ListN.{length}
use Rattle.call_blocks.specs.Kinds.{block_size}
use Rattle.words.specs.Bytes.{words_in}
use Rattle.words.proofs.Bytes.{words_length}
use Rattle.call_list.proofs.Nexts.{part-fits, part_length, start_fits, behind, behind_words, place-fits, next_called}
use Rattle.call_list.proofs.next.Goals as goal

pub overflow_mul-from : goal.overflow_mul-from
overflow_mul-from c = omega (arith, start_fits c.args.bytes.now c.args.at c.requires.4, c.well_formed)

pub slice_bounds-rest-count : goal.slice_bounds-rest-count
slice_bounds-rest-count c = start_fits c.args.bytes.now c.args.at c.requires.4

pub slice_bounds-rest-start : goal.slice_bounds-rest-start
slice_bounds-rest-start c = start_fits c.args.bytes.now c.args.at c.requires.4

pub overflow_mul-to : goal.overflow_mul-to
overflow_mul-to c =
    omega (arith, part-fits (behind c.args.bytes.now c.args.at c.requires.4) c.in-Some.size c.in-Some.ensures.0, c.well_formed)

pub slice_bounds-call-end : goal.slice_bounds-call-end
slice_bounds-call-end c =
    sym (part_length (behind c.args.bytes.now c.args.at c.requires.4) c.in-Some.size c.in-Some.ensures.0)

pub call-requires : goal.call-requires
call-requires c = λ long passes. c.requires.0

pub overflow_add-result : goal.overflow_add-result
overflow_add-result c =
    omega (arith, place-fits c.args.bytes.now c.args.at c.requires.4 c.requires.5 c.in-Some.size c.in-Some.ensures.0, words_length c.args.bytes.now, c.well_formed)

pub returns-in_default : goal.returns-in_default
returns-in_default c =
    absurd (c.requires.5 (ap block_size (sym (behind_words c.args.bytes.now c.args.at c.requires.4)) ∙ c.in_default.ensures))

pub returns : goal.returns
returns c =
    next_called c.args.bytes.now c.args.at c.requires.4 c.requires.5 c.in-Some.size c.in-Some.ensures.0 c.args.month.now c.requires.0 c.requires.1 c.args.hints.now
    c.call.new.hints c.args.answer.now c.call.new.words c.call.new.answer c.call.result c.requires.2 c.requires.3 c.call.ensures

-- `fix_tag_spans::long_tag` meets its contract: the byte where the digits end decides (`sign`, `no_sign`).
use Rattle.std.proofs.Common.{arith, rules}
use Rattle.fix_fields.proofs.LongTags.{up_to}
use Rattle.fix_tag_spans.proofs.Tagging.{sign, no_sign}
use Rattle.fix_tag_spans.proofs.long_tag.Goals as goal

pub returns-then-b-i-eq61 : goal.returns-then-b-i-eq61
returns-then-b-i-eq61 c =
    let E = c.digits_end-i.ensures in
    sign c.args.b.now c.args.from c.requires c.digits_end-i.result (up_to c.args.b.now c.args.from c.requires c.digits_end-i.result E) c.if-b-i-eq61.true

pub returns : goal.returns
returns c =
    let E = c.digits_end-i.ensures in
    no_sign c.args.b.now c.args.from c.requires c.digits_end-i.result (up_to c.args.b.now c.args.from c.requires c.digits_end-i.result E) _ _ c.broken.ensures.0 E.stops c.if-b-i-eq61.false

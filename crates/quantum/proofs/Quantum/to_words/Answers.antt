-- The five parts, one after the other.
use mathlib.Core.Path.{◌≡◌, sym, ap, ◌∙◌}
use lib.ListN.{length}
use Rattle.quantum.proofs.Words.{room, room_four, quantum_laid}
use borrow.Author.Rules.{rules}
use Rattle.quantum.proofs.Quantum.to_words.Goals as goal

pub copy_from_slice-requires-3 : goal.copy_from_slice-requires-3
copy_from_slice-requires-3 c =
    let table-size : length c.args.self.table ≡ 512 = search rules in
    room c.args.words.now c.copy_from_slice.new.self c.put_clock.new.words c.copy_from_slice-2.new.self c.requires
    (ap length c.copy_from_slice.ensures.after) (ap length c.put_clock.ensures) (ap length c.copy_from_slice-2.ensures.after)
    ∙ sym (table-size)

pub copy_from_slice-requires-4 : goal.copy_from_slice-requires-4
copy_from_slice-requires-4 c =
    let table-size : length c.args.self.table ≡ 512 = search rules in
    let notes-size : length c.args.self.notes ≡ 76 = search rules in
    room_four c.args.words.now c.copy_from_slice.new.self c.put_clock.new.words c.copy_from_slice-2.new.self c.requires
    (ap length c.copy_from_slice.ensures.after) (ap length c.put_clock.ensures) (ap length c.copy_from_slice-2.ensures.after)
    c.copy_from_slice-3.new.self (ap length c.copy_from_slice-3.ensures.after ∙ table-size)
    ∙ sym (notes-size)

pub returns : goal.returns
returns c =
    let table-size : length c.args.self.table ≡ 512 = search rules in
    quantum_laid c.args.words.now c.copy_from_slice.new.self c.put_clock.new.words c.copy_from_slice-2.new.self c.copy_from_slice-3.new.self c.copy_from_slice-4.new.self c.args.self c.requires (table-size)
    c.copy_from_slice.ensures.after c.put_clock.ensures c.copy_from_slice-2.ensures.after c.copy_from_slice-3.ensures.after c.copy_from_slice-4.ensures.after

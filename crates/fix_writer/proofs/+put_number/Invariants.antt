-- The measure is the number: its digits before the last are those of its tenth.
use Rattle.fix_writer.proofs.+put_number.Given as goal

abbrev pub decreases-put_number : goal.decreases-put_number
decreases-put_number l = l.n

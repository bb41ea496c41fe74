-- What is claimed of the messages that are written holds.
use Rattle.fix_writer.specs.Claims.{Claims}
use Rattle.fix_writer.proofs.Back.{reads_back}
use Rattle.fix_writer.proofs.Lengths.{at_most_114, the_longest}

pub claims : Claims
claims = record { back = reads_back; most = at_most_114; longest = the_longest }

use Rattle.tm_record.proofs.Consistent.{totals_are_bounded, recorders_are_of_their_image}
use Rattle.tm_record.proofs.WellFormed.{recorders_are_well_formed}
use Rattle.tm_record.proofs.laws.recorders_are_consistent.Goals as goal

pub returns-clause-bounded : goal.returns-clause-bounded
returns-clause-bounded c = totals_are_bounded

pub returns-clause-image : goal.returns-clause-image
returns-clause-image c = recorders_are_of_their_image

pub returns-clause-well_formed : goal.returns-clause-well_formed
returns-clause-well_formed c = recorders_are_well_formed

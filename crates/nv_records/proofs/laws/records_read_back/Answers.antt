use Rattle.nv_records.proofs.Records.{image_is_none, one_text, record_again}
use Rattle.nv_records.proofs.laws.records_read_back.Goals as goal

pub returns-clause-back : goal.returns-clause-back
returns-clause-back c = record_again

pub returns-clause-one : goal.returns-clause-one
returns-clause-one c = one_text

pub returns-clause-image : goal.returns-clause-image
returns-clause-image c = image_is_none

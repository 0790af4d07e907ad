use Rattle.model.proofs.Packing.{files_tell}
use Rattle.model.proofs.files_tell_their_records.Goals as goal

pub returns : goal.returns
returns c = files_tell

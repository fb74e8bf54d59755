-- `text::write::put_bytes` meets its contract. Assumes nothing.
use Rattle.text.specs.Stores.{written-copied}
use Rattle.text.proofs.write.put_bytes.Goals as goal

pub returns : goal.returns
returns c = written-copied c.requires c.copy_from_slice.ensures.after

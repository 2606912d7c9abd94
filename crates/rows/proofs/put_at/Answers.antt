-- The value is stored in its row.
use Rattle.rules.specs.Packets.{put}
use Rattle.rows.proofs.Chunks.{stored_value}
use Rattle.rows.proofs.put_at.Goals as goal

pub returns : goal.returns
unfolding put
returns g c = stored_value c.args.i c.args.f c.args.x c.requires.2 c.requires.0 c.requires.1

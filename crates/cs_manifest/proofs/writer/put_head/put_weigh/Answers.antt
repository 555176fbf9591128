-- The line of what is weighed is one text, for nodes and for bytes.
use Rattle.cs_manifest.proofs.writer.put_head.put_weigh.Goals as goal

pub returns-in-Nodes : goal.returns-in-Nodes
returns-in-Nodes g c = rw c.in-Nodes.is c.put.ensures

pub returns-in-Bytes : goal.returns-in-Bytes
returns-in-Bytes g c = rw c.in-Bytes.is c.put-in-Bytes.ensures

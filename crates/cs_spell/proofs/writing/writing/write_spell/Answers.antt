-- The file and what texts are made by have one text of spellings, and aren't without one.
use Rattle.cs_manifest.specs.Manifest.ByWork.{texts_of}
use Rattle.cs_spell.proofs.writing.writing.write_spell.Goals as goal

pub write_text-requires-clause-one : goal.write_text-requires-clause-one
write_text-requires-clause-one g c = c.one_spelling.ensures c.args.file.now (texts_of c.args.work.now) c.args.weigh

pub write_text-requires-clause-some : goal.write_text-requires-clause-some
write_text-requires-clause-some g c = c.some_spelling.ensures c.args.file.now (texts_of c.args.work.now) c.args.weigh

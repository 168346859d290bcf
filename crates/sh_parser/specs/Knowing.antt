-- What is known of the bodies of a text's here-documents while the text is read.
use Rattle.std.specs.Prelude.{◌≡◌, List, ◌++◌}
use Rattle.sh_grammar.specs.Bytes.{Text}
use Rattle.sh_parser.specs.declared.knowing.Bodies.{Bodies}
use Rattle.sh_parser.specs.declared.knowing.Extent.{Extent}
use Rattle.sh_parser.specs.declared.knowing.Extent.TheVariants as extents

-- all bodies, or those in front, are these
abbrev pub AreKnown : Extent → List Text → List Text → Type 0
AreKnown extents.All ks ds = ds ≡ ks
AreKnown extents.Front ks ds = (more : List Text) × (ds ≡ ks ++ more)

-- where so much is known, the bodies may be these
abbrev pub MayBe : Bodies → List Text → Type 0
MayBe b ds = AreKnown b.extent b.texts ds

-- what was known stays known
abbrev pub Grows : Bodies → Bodies → Type 0
Grows old new = (new.extent ≡ old.extent) × AreKnown old.extent old.texts new.texts

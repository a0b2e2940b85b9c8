-- The code's pieces as pieces of a template.
use Rattle.regex_lite_engine.specs.Interpolation as template
use Rattle.regex_lite_engine.specs.declared.interpolate.Piece.{Piece}
use Rattle.regex_lite_engine.specs.declared.interpolate.Piece.TheVariants as stored

abbrev pub piece_of : Piece → template.Piece
piece_of (stored.Text text) = template.plain text.now
piece_of (stored.Number index) = template.numbered index
piece_of (stored.Name name) = template.named name.now

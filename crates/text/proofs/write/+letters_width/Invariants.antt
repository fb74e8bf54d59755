-- `text::write::letters_width` meets its contract: the places fall with each call. Assumes nothing.
use Rattle.text.proofs.write.+letters_width.Given as goal

abbrev pub decreases-letters_width : goal.decreases-letters_width
decreases-letters_width l = l.places

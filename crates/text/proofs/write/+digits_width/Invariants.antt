-- `text::write::digits_width` meets its contract: the places fall with each call. Assumes nothing.
use Rattle.text.proofs.write.+digits_width.Given as goal

abbrev pub decreases-digits_width : goal.decreases-digits_width
decreases-digits_width l = l.places

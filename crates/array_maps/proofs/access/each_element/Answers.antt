use Rattle.array_maps.proofs.ElementLaws.{element_after_all, length-words_after_all}
use Rattle.array_maps.proofs.access.each_element.Goals as goal

pub returns : goal.returns
returns c = record { element = element_after_all; count = length-words_after_all }

-- Each list of words of the text is the list that the scan gives.
use Rattle.std.proofs.Common.{sym, ◌∙◌}
use Rattle.cs_ctext.proofs.WordLists.{words_of-words}
use Rattle.cs_ctext.proofs.laws.one_list_of_words.Goals as goal

pub returns : goal.returns
returns c = λ at text v w p q. words_of-words p ∙ sym (words_of-words q)

use Rattle.edge_info.proofs.InfoLaws.{infos_found, infos_again}
use Rattle.edge_info.proofs.laws.infos_law.Goals as goal

pub returns-clause-found : goal.returns-clause-found
returns-clause-found c = λ info_len text_len count bytes set fits size e. infos_found c.entries_law.ensures.found c.texts_law.ensures.found info_len text_len count bytes set fits size e

pub returns-clause-spelled : goal.returns-clause-spelled
returns-clause-spelled c = λ info_len text_len count bytes set s. infos_again c.entries_law.ensures.spelled c.texts_law.ensures.spelled info_len text_len count bytes set s

use Rattle.store_mem.proofs.AccessLemmas.{written-threads, set_scalar-threads, field_written-threads, made-threads, freed-threads, locked-threads, unlocked-threads, got-threads, put-threads}
use Rattle.store_mem.proofs.laws.threads_play_no_part.Goals as goal

pub returns-clause-write : goal.returns-clause-write
returns-clause-write c = written-threads

pub returns-clause-set_scalar : goal.returns-clause-set_scalar
returns-clause-set_scalar c = set_scalar-threads

pub returns-clause-set_field : goal.returns-clause-set_field
returns-clause-set_field c = field_written-threads

pub returns-clause-new_object : goal.returns-clause-new_object
returns-clause-new_object c = made-threads

pub returns-clause-free : goal.returns-clause-free
returns-clause-free c = freed-threads

pub returns-clause-lock : goal.returns-clause-lock
returns-clause-lock c = locked-threads

pub returns-clause-unlock : goal.returns-clause-unlock
returns-clause-unlock c = unlocked-threads

pub returns-clause-get_byte : goal.returns-clause-get_byte
returns-clause-get_byte c = got-threads

pub returns-clause-put_text : goal.returns-clause-put_text
returns-clause-put_text c = put-threads

use Rattle.event_lines.proofs.exit_status.Ending.put.Goals as goal

pub returns-in-Usage-clause-puts : goal.returns-in-Usage-clause-puts
returns-in-Usage-clause-puts g c = rw c.in-Usage.is (rw c.as_bytes-name.ensures.value at c.put_parts.ensures.puts)

pub returns-in-Unreadable-clause-puts : goal.returns-in-Unreadable-clause-puts
returns-in-Unreadable-clause-puts g c = rw c.in-Unreadable.is (rw c.as_bytes-name.ensures.value at c.put_parts-in-Unreadable.ensures.puts)

pub returns-in-OutOfMemory-clause-puts : goal.returns-in-OutOfMemory-clause-puts
returns-in-OutOfMemory-clause-puts g c = rw c.in-OutOfMemory.is (rw c.as_bytes-name.ensures.value at c.put_parts-in-OutOfMemory.ensures.puts)

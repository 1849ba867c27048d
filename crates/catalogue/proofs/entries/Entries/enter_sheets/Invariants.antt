-- `entries::Entries::enter_sheets` meets its contract. The invariant: so many sheets are entered, and what is left begins with the next.
use Rattle.catalogue.proofs.EntryLoop.{Begun}
use Rattle.catalogue.proofs.entries.Entries.enter_sheets.Given as goal

abbrev pub invariant-loop-i : goal.invariant-loop-i
invariant-loop-i l = Begun l.s l.i-iterator.iter.rest.now l.i-iterator.count l.self.counts l.self.rows.items

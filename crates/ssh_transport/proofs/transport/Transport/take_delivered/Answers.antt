use Rattle.ssh_transport.proofs.transport.Transport.take_delivered.Goals as goal

pub invariant_of-self : goal.invariant_of-self
invariant_of-self c =
    let k = c.self.invariant in
    record {
      begins = record { valid = k.begins.valid; short = k.begins.short };
      heeds = k.heeds;
      within = k.within;
      live = λ f. let l = k.live f in record {
        begins = record { valid = l.begins.valid; short = l.begins.short };
        settled = λ at. l.settled at;
        good = l.good;
        opened = record
            { machine = l.opened.machine; heard = l.opened.heard };
        numbered = l.numbered;
        short = l.short;
        heeds =
            l.heeds;
        unbroken = l.unbroken;
        windowed = l.windowed;
      };
    }

mod SaidLemmas

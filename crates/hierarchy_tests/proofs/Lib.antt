mod IdLemmas

mod WorkedCan
